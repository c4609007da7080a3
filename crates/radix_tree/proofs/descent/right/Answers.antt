use Rattle.std.proofs.Common.{◌+◌, arith, ap, sym, ◌∙◌}
use Rattle.radix_tree.proofs.DescentLaws.{right_of_read, split_small}
use Rattle.radix_tree.proofs.descent.right.Goals as goal

pub overflow_add-node : goal.overflow_add-node
overflow_add-node c =
    omega (
      arith,
      split_small c.args.t.now c.node_of-node.ensures.table c.args.number c.node_of-node.result c.requires
          c.node_of-node.ensures.value,
    )

pub overflow_add-result : goal.overflow_add-result
overflow_add-result c =
    omega (
      arith,
      split_small c.args.t.now c.node_of-node.ensures.table c.args.number c.node_of-node.result c.requires
          c.node_of-node.ensures.value,
    )

pub returns-then-node : goal.returns-then-node
returns-then-node c = (
  sym c.if-node.true ∙ ap (λ x. x.split + 1) c.node_of-node.ensures.value,
  ap (λ x. x.last) c.node_of-node.ensures.value,
)

pub returns-else-node : goal.returns-else-node
returns-else-node c =
    right_of_read c.args.t.now c.node_of-node.ensures.table c.args.number c.node_of-node.result c.requires
    c.node_of-node.ensures.value c.if-node.false
