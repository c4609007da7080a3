use Rattle.std.proofs.Common.{ap, sym, ◌∙◌, refl}
use Rattle.radix_tree.specs.declared.nodes.Node.{Node}
use Rattle.box_handoff.proofs.RestLaws.{left_inner, left_leaf}
use Rattle.box_handoff.proofs.resting.left_at.Goals as goal

pub returns-then-node_of-split : goal.returns-then-node_of-split
returns-then-node_of-split c = left_inner c.args.tree.now c.requires.table c.args.split c.requires.within
    (sym (ap (λ (x : Node). x.last) c.node_of.ensures.value) ∙ c.if-node_of-split.true)

pub returns-else-node_of-split : goal.returns-else-node_of-split
returns-else-node_of-split c = (
  left_leaf c.args.tree.now c.requires.table c.args.split c.requires.within
      (λ e. c.if-node_of-split.false (ap (λ (x : Node). x.last) c.node_of.ensures.value ∙ e)),
  refl,
)
