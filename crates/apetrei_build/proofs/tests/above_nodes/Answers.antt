use Rattle.std.proofs.Common.{◌≡◌, ◌<◌, ◌∙◌, sym, ap, subst, List, length}
use Rattle.radix_tree.specs.Table.{node_at, IsRow}
use Rattle.radix_tree.specs.declared.nodes.Node.{Node}
use Rattle.radix_tree.proofs.RowLaws.{node_is}
use Rattle.radix_tree.proofs.NumberLaws.{range_of_node}
use Rattle.apetrei_build.proofs.tests.above_nodes.Goals as goal

pub parent-requires : goal.parent-requires
parent-requires c =
    let inside : c.loop-i.i < length c.args.tree.now.nodes = subst
    (λ (xs : List Node). c.loop-i.i < length xs) c.nodes-nodes.ensures.nodes c.loop-i-test.true in
    let is : c.index-nodes-i.result ≡ node_at c.args.tree.now.nodes c.loop-i.i = node_is c.nodes-nodes.result.now
    c.loop-i.i c.index-nodes-i.result c.loop-i-test.true c.index-nodes-i.is
    ∙ ap (λ (xs : List Node). node_at xs c.loop-i.i) c.nodes-nodes.ensures.nodes in
    let row : IsRow c.args.tree.now.keys c.loop-i.i c.index-nodes-i.result = subst
    (λ (x : Node). IsRow c.args.tree.now.keys c.loop-i.i x) (sym is)
    (c.nodes-nodes.ensures.table.each c.loop-i.i inside) in
    (c.args.tree.now.keys, c.requires, range_of_node c.args.tree.now.keys c.requires.lawful row.range)
