use Rattle.std.proofs.Common.{◌<◌, length, ap, subst, sym, ◌∙◌}
use Rattle.fixed_box.specs.Extent.{boxes_meet}
use Rattle.radix_tree.specs.Table.{node_at}
use Rattle.radix_tree.proofs.RowLaws.{node_is}
use Rattle.traversal.proofs.overlapping.node_meets.Goals as goal

pub returns : goal.returns
returns c =
    let inside : c.args.number < length c.nodes.result.now = subst (λ xs. c.args.number < length xs)
    (sym c.nodes.ensures.nodes) c.requires in
    let read = node_is c.nodes.result.now c.args.number c.index-nodes-number.result inside c.index-nodes-number.is in
    c.meets.ensures.value
    ∙ ap (λ n. boxes_meet n.fit c.args.q.now) (sym c.index-nodes-number.is ∙ read
    ∙ ap (λ xs. node_at xs c.args.number) c.nodes.ensures.nodes)
