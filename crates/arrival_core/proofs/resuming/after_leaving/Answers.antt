use Rattle.std.proofs.Common.{◌≡◌, ◌∙◌, ◌<◌, length, arith, sym, ap, subst}
use Rattle.radix_tree.specs.Table.{node_at}
use Rattle.radix_tree.proofs.RowLaws.{node_is}
use Rattle.arrival_core.proofs.TerrainLaws.{root_row, root_above}
use Rattle.arrival_core.proofs.resuming.after_leaving.Goals as goal

pub returns-then-nodes-l-clause-value : goal.returns-then-nodes-l-clause-value
returns-then-nodes-l-clause-value c = λ workers.
    let root = root_row c.args.g.now.tree.now c.requires.terrain.table c.requires.terrain.task.two in
    let inside : 0 < length c.nodes.result.now = subst (λ xs. 0 < length xs) (sym c.nodes.ensures.nodes) root.0 in
    let read = node_is c.nodes.result.now 0 c.index-nodes-0.result inside c.index-nodes-0.is
    ∙ ap (λ xs. node_at xs 0) c.nodes.ensures.nodes in
    let same : (node_at c.args.g.now.tree.now.nodes 0).split ≡ c.args.l.split =
    ap (λ x. x.split) (sym read ∙ c.index-nodes-0.is) ∙ c.if-nodes-l.true in
    rw (root_above c.args.g.now.tree.now c.requires.terrain.table c.requires.terrain.task.two c.args.l.split same)
    (c.resumed.ensures.value workers)

pub node_up-up-requires-clause-low : goal.node_up-up-requires-clause-low
node_up-up-requires-clause-low c =
    let root = root_row c.args.g.now.tree.now c.requires.terrain.table c.requires.terrain.task.two in
    omega (arith, root.1)

pub node_up-up-requires-clause-high : goal.node_up-up-requires-clause-high
node_up-up-requires-clause-high c =
    let root = root_row c.args.g.now.tree.now c.requires.terrain.table c.requires.terrain.task.two in
    omega (arith, root.2, c.requires.node)

pub node_up-up-requires-clause-other : goal.node_up-up-requires-clause-other
node_up-up-requires-clause-other c = λ e.
    let root = root_row c.args.g.now.tree.now c.requires.terrain.table c.requires.terrain.task.two in
    let inside : 0 < length c.nodes.result.now = subst (λ xs. 0 < length xs) (sym c.nodes.ensures.nodes) root.0 in
    let read = node_is c.nodes.result.now 0 c.index-nodes-0.result inside c.index-nodes-0.is
    ∙ ap (λ xs. node_at xs 0) c.nodes.ensures.nodes in
    c.if-nodes-l.false (ap (λ x. x.split) (sym c.index-nodes-0.is ∙ read) ∙ e)
