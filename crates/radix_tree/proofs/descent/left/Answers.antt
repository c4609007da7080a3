use Rattle.radix_tree.proofs.DescentLaws.{left_of_read}
use Rattle.radix_tree.proofs.descent.left.Goals as goal

pub returns-else-node : goal.returns-else-node
returns-else-node c =
    left_of_read c.args.t.now c.node_of-node.ensures.table c.args.number c.node_of-node.result c.requires
    c.node_of-node.ensures.value c.if-node.false
