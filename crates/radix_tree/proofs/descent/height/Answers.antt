use Rattle.std.proofs.Common.{ap, arith, length, sym, ◌∙◌}
use Rattle.std.proofs.lemmas.Bool.{eqb-true, eqb-false}
use Rattle.radix_tree.proofs.DescentLaws.{empty_height, root_height}
use Rattle.radix_tree.proofs.descent.height.Goals as goal

pub returns-then-is_empty-clause-value : goal.returns-then-is_empty-clause-value
returns-then-is_empty-clause-value c =
    let none = eqb-true (length c.nodes.result.now) 0 (sym c.is_empty.ensures ∙ c.if-is_empty.true) in
    empty_height c.args.t.now c.nodes.ensures.table (sym (ap length c.nodes.ensures.nodes) ∙ none)

pub returns-else-is_empty-clause-value : goal.returns-else-is_empty-clause-value
returns-else-is_empty-clause-value c =
    let some = eqb-false (length c.nodes.result.now) 0 (sym c.is_empty.ensures ∙ c.if-is_empty.false) in
    root_height c.args.t.now c.nodes.ensures.table c.height_over.result
    (omega (arith, some, ap length c.nodes.ensures.nodes)) c.height_over.ensures.value
