use Rattle.std.proofs.Common.{◌≡◌, ℕ, ◌+◌, ◌-◌, ◌<◌, ◌≤◌, ap, arith, length, max, subst}
use Rattle.radix_tree.specs.Ranges.{IsNode, HasRange}
use Rattle.radix_tree.specs.Shape.{shape_in, height_of}
use Rattle.radix_tree.specs.Table.{node_at}
use Rattle.radix_tree.specs.Filling.{IsChild}
use Rattle.radix_tree.proofs.DescentLaws.{low_at, high_at, left_below, right_below, leaf_over, few_over, node_over, over_most}
use Rattle.radix_tree.proofs.descent.+height_over.Goals as goal

pub overflow_sub-node : goal.overflow_sub-node
overflow_sub-node t c =
    let tree = c.args.t.now in
    let inside : c.in-Inner.number < length tree.nodes = subst (IsChild tree) c.in-Inner.is c.requires.child in
    omega (
      arith,
      ap (λ x. x.first) c.node_of-node.ensures.value,
      ap (λ x. x.last) c.node_of-node.ensures.value,
      low_at tree c.requires.table c.in-Inner.number inside,
      high_at tree c.requires.table c.in-Inner.number inside,
    )

pub returns-then-node-least-clause-value : goal.returns-then-node-least-clause-value
returns-then-node-least-clause-value t c = λ a b r.
    let few : (node_at c.args.t.now.nodes c.in-Inner.number).last
    - (node_at c.args.t.now.nodes c.in-Inner.number).first ≤ c.args.least =
    omega (
      arith,
      ap (λ x. x.first) c.node_of-node.ensures.value,
      ap (λ x. x.last) c.node_of-node.ensures.value,
      c.if-node-least.true,
    ) in
    few_over c.args.t.now c.requires.table c.in-Inner.number c.args.least a b few
    (subst (λ x. HasRange c.args.t.now.keys x a b) c.in-Inner.is r)

pub height_over-over_left-requires : goal.height_over-over_left-requires
height_over-over_left-requires t c =
    let inside : c.in-Inner.number < length c.args.t.now.nodes = subst (IsChild c.args.t.now) c.in-Inner.is
    c.requires.child in
    let left = left_below c.args.t.now c.requires.table c.args.child c.left.result c.in-Inner.number inside
    c.in-Inner.is c.left.ensures in (
      omega (arith, left.falls),
      (c.requires.table, (left.stands, omega (arith, c.saturating_sub.ensures, c.requires.least))),
    )

pub height_over-requires : goal.height_over-requires
height_over-requires t c =
    let inside : c.in-Inner.number < length c.args.t.now.nodes = subst (IsChild c.args.t.now) c.in-Inner.is
    c.requires.child in
    let right = right_below c.args.t.now c.requires.table c.args.child c.right.result c.in-Inner.number inside
    c.in-Inner.is c.right.ensures in
    (omega (arith, right.falls), (c.requires.table, (right.stands, c.height_over-over_left.ensures.most)))

pub returns-in-Leaf-clause-value : goal.returns-in-Leaf-clause-value
returns-in-Leaf-clause-value t c = λ a b r.
    leaf_over c.args.t.now c.requires.table c.in-Leaf.field-0 c.args.least a b
    (subst (λ x. HasRange c.args.t.now.keys x a b) c.in-Leaf.is r)

value : (t : ℕ) (c : goal.After-height_over t) (a b : ℕ) → IsNode c.args.t.now.keys c.in-Inner.number a b →
    1 + c.height_over.result ≡ max c.args.least (height_of (shape_in c.args.t.now.keys a b))
value t c =
    let inside : c.in-Inner.number < length c.args.t.now.nodes = subst (IsChild c.args.t.now) c.in-Inner.is
    c.requires.child in
    node_over c.args.t.now c.requires.table c.in-Inner.number c.args.least c.saturating_sub.result
    c.height_over-over_left.result c.height_over.result inside c.saturating_sub.ensures
    (c.height_over-over_left.ensures.value _ _ c.left.ensures)
    (c.height_over.ensures.value _ _ c.right.ensures)

pub returns-else-node-least-clause-value : goal.returns-else-node-least-clause-value
returns-else-node-least-clause-value t c =
    λ a b r. value t c a b (subst (λ x. HasRange c.args.t.now.keys x a b) c.in-Inner.is r)

pub returns-else-node-least-clause-most : goal.returns-else-node-least-clause-most
returns-else-node-least-clause-most t c =
    let inside : c.in-Inner.number < length c.args.t.now.nodes = subst (IsChild c.args.t.now) c.in-Inner.is
    c.requires.child in
    over_most c.args.t.now c.requires.table c.in-Inner.number c.args.least (1 + c.height_over.result) inside
    c.requires.least (value t c)
