use Rattle.std.proofs.Common.{◌<◌, length, ap, subst, sym, ◌∙◌}
use Rattle.radix_tree.specs.Table.{node_at}
use Rattle.radix_tree.proofs.RowLaws.{node_is}
use Rattle.radix_tree.proofs.descent.node_of.Goals as goal

pub returns-clause-value : goal.returns-clause-value
returns-clause-value c =
    let inside : c.args.number < length c.nodes.result.now = subst (λ xs. c.args.number < length xs)
    (sym c.nodes.ensures.nodes) c.requires in
    node_is c.nodes.result.now c.args.number c.index-nodes-number.result inside c.index-nodes-number.is
    ∙ ap (λ xs. node_at xs c.args.number) c.nodes.ensures.nodes
