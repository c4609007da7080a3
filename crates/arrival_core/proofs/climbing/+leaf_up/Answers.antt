use Rattle.std.proofs.Common.{arith}
use Rattle.arrival_core.proofs.Descending.{read, leaf_on_left, leaf_on_right, inner_on_left, inner_on_right}
use Rattle.arrival_core.proofs.climbing.+leaf_up.Goals as goal

pub leaf_up-requires : goal.leaf_up-requires
leaf_up-requires t c =
    let x = read c.args.t.now c.requires.table c.args.number c.requires.number c.node_of-node.result
    c.node_of-node.ensures.value in
    let r = inner_on_left c.args.t.now c.requires.table c.args.number c.requires.number c.node_of-node.result
    c.node_of-node.ensures.value c.left.result c.in-Inner.below c.in-Inner.is c.left.ensures in (
      omega (arith, r.first_is, r.last_is, x.low, x.high, x.first_is, x.last_is),
      (r.inside, (omega (arith, r.first_is, x.first_is), (omega (arith, r.last_is), c.requires.table))),
    )

pub leaf_up-requires-in-Inner-right : goal.leaf_up-requires-in-Inner-right
leaf_up-requires-in-Inner-right t c =
    let x = read c.args.t.now c.requires.table c.args.number c.requires.number c.node_of-node.result
    c.node_of-node.ensures.value in
    let r = inner_on_right c.args.t.now c.requires.table c.args.number c.requires.number c.node_of-node.result
    c.node_of-node.ensures.value c.right.result c.in-Inner-right.below c.in-Inner-right.is c.right.ensures in (
      omega (arith, r.first_is, r.last_is, x.low, x.high, x.first_is, x.last_is),
      (r.inside, (omega (arith, r.first_is), (omega (arith, r.last_is, x.last_is), c.requires.table))),
    )

pub returns-in-Leaf : goal.returns-in-Leaf
returns-in-Leaf t c = leaf_on_left c.args.t.now c.requires.table c.args.number c.requires.number c.node_of-node.result
    c.node_of-node.ensures.value c.left.result c.in-Leaf.field-0 c.args.p c.in-Leaf.is c.left.ensures c.requires.low
    (omega arith)

pub returns-in-Leaf-right : goal.returns-in-Leaf-right
returns-in-Leaf-right t c = leaf_on_right c.args.t.now c.requires.table c.args.number c.requires.number
    c.node_of-node.result c.node_of-node.ensures.value c.right.result c.in-Leaf-right.field-0 c.args.p
    c.in-Leaf-right.is
    c.right.ensures c.requires.high (omega arith)
