use Rattle.std.proofs.Common.{◌++◌, length, arith, ap, sym, ◌∙◌, append-nil}
use Rattle.std.proofs.lemmas.Bool.{eqb-true, eqb-false}
use Rattle.std.proofs.lemmas.Result.{on_ok_weaker}
use Rattle.octree_cells.proofs.Walking.{no_cells, root_apart, root_adds_all}
use Rattle.octree_cells.proofs.listing.collect_all.Goals as goal

pub returns-then-is_empty-clause-cells : goal.returns-then-is_empty-clause-cells
returns-then-is_empty-clause-cells c =
    let none = eqb-true (length c.nodes.result.now) 0 (sym c.is_empty.ensures ∙ c.if-is_empty.true) in
    sym (ap (λ xs. c.args.found.now.items ++ xs)
    (no_cells c.args.t.now c.nodes.ensures.table c.args.level c.requires
    (sym (ap length c.nodes.ensures.nodes) ∙ none))
    ∙ append-nil c.args.found.now.items)

pub collect-requires-clause-child : goal.collect-requires-clause-child
collect-requires-clause-child c =
    let some = eqb-false (length c.nodes.result.now) 0 (sym c.is_empty.ensures ∙ c.if-is_empty.false) in
    omega (arith, some, ap length c.nodes.ensures.nodes)

pub collect-requires-clause-apart : goal.collect-requires-clause-apart
collect-requires-clause-apart c = λ a b d. root_apart c.args.t.now c.nodes.ensures.table c.args.level c.requires a b d

pub returns-clause-cells : goal.returns-clause-cells
returns-clause-cells c =
    let some = eqb-false (length c.nodes.result.now) 0 (sym c.is_empty.ensures ∙ c.if-is_empty.false) in
    on_ok_weaker c.collect.result
    (λ added. root_adds_all c.args.t.now c.nodes.ensures.table c.args.level c.requires
    (omega (arith, some, ap length c.nodes.ensures.nodes)) c.args.found.now.items c.collect.new.found.items added)
    c.collect.ensures
