use Rattle.std.proofs.Common.{◌≡◌, ℕ, suc, ◌+◌, ap, sym, ◌∙◌, arith, length}
use Rattle.radix_tree.specs.declared.nodes.Node.{Node}
use Rattle.box_handoff.proofs.RestLaws.{right_inner, right_leaf}
use Rattle.box_handoff.proofs.resting.right_at.Goals as goal

-- the next number
next : (k : ℕ) → k + 1 ≡ suc k
next k = omega arith

pub returns-then-next-nodes : goal.returns-then-next-nodes
returns-then-next-nodes c = (
  next c.args.split,
  right_leaf c.args.tree.now c.requires.table c.args.split c.requires.within _ (next c.args.split)
      (λ less e. absurd (omega (
        arith,
        less,
        c.if-next-nodes.true,
        ap (λ l. length l) c.nodes.ensures.nodes,
      ))),
)

pub returns-then-node_of-next : goal.returns-then-node_of-next
returns-then-node_of-next c = right_inner c.args.tree.now c.requires.table c.args.split c.requires.within _
    (next c.args.split) (omega (
      arith,
      c.if-next-nodes.false,
      ap (λ l. length l) c.nodes.ensures.nodes,
    ))
    (sym (ap (λ (x : Node). x.first) c.node_of.ensures.value) ∙ c.if-node_of-next.true)

pub returns-else-node_of-next : goal.returns-else-node_of-next
returns-else-node_of-next c = (
  next c.args.split,
  right_leaf c.args.tree.now c.requires.table c.args.split c.requires.within _ (next c.args.split)
      (λ less e. c.if-node_of-next.false (ap (λ (x : Node). x.first) c.node_of.ensures.value ∙ e)),
)
