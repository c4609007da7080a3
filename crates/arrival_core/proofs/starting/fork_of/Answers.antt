use Rattle.std.proofs.Common.{ap, ◌∙◌, arith}
use Rattle.radix_tree.proofs.DescentLaws.{child_from_range, high_at, last_at}
use Rattle.arrival_core.specs.Terrains.{start_branch}
use Rattle.arrival_core.proofs.Descending.{read}
use Rattle.arrival_core.proofs.StartLaws.{start_fork_is}
use Rattle.arrival_core.proofs.starting.fork_of.Goals as goal

pub overflow_add-node : goal.overflow_add-node
overflow_add-node c =
    let x = read c.args.g.now.tree.now c.requires.terrain.table c.args.number c.requires.number c.node_of-node.result
    c.node_of-node.ensures.value in
    omega (arith, x.high, x.within, c.requires.terrain.table.lawful.few)

pub packet_of-requires-clause-child : goal.packet_of-requires-clause-child
packet_of-requires-clause-child c = child_from_range c.args.g.now.tree.now c.requires.terrain.table c.left.result _ _
    (let h = high_at c.args.g.now.tree.now c.requires.terrain.table c.args.number c.requires.number in
    let l = last_at c.args.g.now.tree.now c.requires.terrain.table c.args.number c.requires.number in
    omega (arith, h, l)) c.left.ensures

pub packet_of-requires-2-clause-child : goal.packet_of-requires-2-clause-child
packet_of-requires-2-clause-child c = child_from_range c.args.g.now.tree.now c.requires.terrain.table c.right.result _ _
    (last_at c.args.g.now.tree.now c.requires.terrain.table c.args.number c.requires.number) c.right.ensures

pub returns : goal.returns
returns c = λ workers some. start_fork_is c.args.g.now workers some c.requires.terrain c.requires.rest c.args.number
    c.requires.number c.node_of-node.result c.node_of-node.ensures.value c.left.result c.right.result c.left.ensures
    c.right.ensures c.is_live-on_left.result c.is_live-on_right.result c.is_live-on_left.ensures
    c.is_live-on_right.ensures _
    (c.start_branch.ensures ∙ ap (start_branch c.is_live-on_left.result) c.packet_of.ensures)
    (c.start_branch-2.ensures ∙ ap (start_branch c.is_live-on_right.result) c.packet_of-2.ensures) c.neither.ensures
