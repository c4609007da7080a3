-- The way down a tree: the ranges of children, and the heights below them.
use Rattle.std.proofs.Common.{◌≡◌, ◌≢◌, ℕ, ◌+◌, ◌-◌, ◌^◌, ◌<◌, ◌≤◌, max, refl, sym, ap, ◌∙◌, arith, subst, length}
use Rattle.morton_key.proofs.Tags.{TAG_WIDTH}
use Rattle.radix_tree.specs.declared.nodes.Node.{Node}
use Rattle.radix_tree.specs.declared.nodes.Child.{Child}
use Rattle.radix_tree.specs.declared.nodes.Child.TheVariants.{Leaf, Inner}
use Rattle.radix_tree.specs.Split.{split}
use Rattle.radix_tree.specs.Ranges.{IsNode, HasRange}
use Rattle.radix_tree.specs.Shape.{shape_in, shape_of, height_of}
use Rattle.radix_tree.specs.Table.{Contents, node_at, IsTable}
use Rattle.radix_tree.specs.Filling.{IsChild, span_of}
use Rattle.radix_tree.proofs.NumberLaws.{proper, one_range}
use Rattle.radix_tree.proofs.NodeLaws.{node_within, node_below, split_low, split_high, left_node, right_node, root_node}
use Rattle.radix_tree.proofs.HeightLaws.{height_of_one, height_le_span, height_of_fork, height_most}

-- the greater of 0 and a number is that number
max_zero : (h : ℕ) → max 0 h ≡ h
max_zero h = omega arith

-- the one child stands below the other: it stands in the tree, and spans less
pub record IsBelow (t : Contents) (child below : Child) : Type 0 where
  pub stands : IsChild t below
  pub falls : span_of t below < span_of t child

module _ (t : Contents) (table : IsTable t) where
  -- the node of a number has the range and the split of that number
  range_at : (k : ℕ) → k < length t.nodes → IsNode t.keys k (node_at t.nodes k).first (node_at t.nodes k).last
  range_at k lt = (table.each k lt).range

  -- its split is that of its range
  split_at : (k : ℕ) → k < length t.nodes →
      (node_at t.nodes k).split ≡ split t.keys (node_at t.nodes k).first (node_at t.nodes k).last
  split_at k lt = (table.each k lt).part

  -- the split lies in the range, before its end
  pub low_at : (k : ℕ) → k < length t.nodes → (node_at t.nodes k).first ≤ (node_at t.nodes k).split
  low_at k lt = omega (arith, split_at k lt, split_low t.keys table.lawful (range_at k lt))

  -- before the end
  pub high_at : (k : ℕ) → k < length t.nodes → (node_at t.nodes k).split < (node_at t.nodes k).last
  high_at k lt = omega (arith, split_at k lt, split_high t.keys table.lawful (range_at k lt))

  -- and the range among the keys
  pub last_at : (k : ℕ) → k < length t.nodes → (node_at t.nodes k).last < length t.keys
  last_at k lt = node_within t.keys table.lawful (range_at k lt)

  -- the left child, where it is inner
  pub left_at : (k : ℕ) → k < length t.nodes → (node_at t.nodes k).first ≢ (node_at t.nodes k).split →
      IsNode t.keys (node_at t.nodes k).split (node_at t.nodes k).first (node_at t.nodes k).split
  left_at k lt ne = left_node t.keys table.lawful (range_at k lt) (node_at t.nodes k).split (split_at k lt)
      (omega (arith, low_at k lt))

  -- and the right one
  pub right_at : (k : ℕ) → k < length t.nodes → (node_at t.nodes k).split + 1 ≢ (node_at t.nodes k).last →
      IsNode t.keys ((node_at t.nodes k).split + 1) ((node_at t.nodes k).split + 1) (node_at t.nodes k).last
  right_at k lt ne = right_node t.keys table.lawful (range_at k lt) (node_at t.nodes k).split (split_at k lt)
      (omega (arith, high_at k lt))

  -- the same, of a node that was read
  pub left_of_read : (k : ℕ) (x : Node) → k < length t.nodes → x ≡ node_at t.nodes k → x.first ≢ x.split →
      IsNode t.keys x.split (node_at t.nodes k).first (node_at t.nodes k).split
  left_of_read k x lt e ne =
      subst (λ z. IsNode t.keys z (node_at t.nodes k).first (node_at t.nodes k).split) (sym (ap (λ y. y.split) e))
      (left_at k lt (λ same. ne (ap (λ y. y.first) e ∙ (same ∙ sym (ap (λ y. y.split) e)))))

  -- and the right one
  pub right_of_read : (k : ℕ) (x : Node) → k < length t.nodes → x ≡ node_at t.nodes k → x.split + 1 ≢ x.last →
      IsNode t.keys (x.split + 1) ((node_at t.nodes k).split + 1) (node_at t.nodes k).last
  right_of_read k x lt e ne =
      subst (λ z. IsNode t.keys (z + 1) ((node_at t.nodes k).split + 1) (node_at t.nodes k).last)
      (sym (ap (λ y. y.split) e))
      (right_at k lt (λ same. ne (ap (λ y. y.split + 1) e ∙ (same ∙ sym (ap (λ y. y.last) e)))))

  -- a split that was read has a next position
  pub split_below_last : (k : ℕ) (x : Node) → k < length t.nodes → x ≡ node_at t.nodes k → x.split < x.last
  split_below_last k x lt e = omega (arith, ap (λ y. y.split) e, ap (λ y. y.last) e, high_at k lt)

  -- so the position behind it is no larger than its type
  pub split_small : (k : ℕ) (x : Node) → k < length t.nodes → x ≡ node_at t.nodes k → x.split + 1 < 2 ^ 32
  split_small k x lt e = omega (arith, ap (λ y. y.split) e, high_at k lt, last_at k lt, table.lawful.few)

  -- a number has the range that stands in its row
  pub row_range : (k a b : ℕ) → IsNode t.keys k a b →
      (k < length t.nodes) × ((node_at t.nodes k).first ≡ a) × ((node_at t.nodes k).last ≡ b)
  row_range k a b d =
      let inside : k < length t.nodes = omega (arith, node_below t.keys table.lawful d, table.count) in
      let same = one_range t.keys table.lawful (range_at k inside) d in
      (inside, same.0, same.1)

  -- a child with a range stands in the tree
  pub child_from_range : (child : Child) (a b : ℕ) → b < length t.keys → HasRange t.keys child a b → IsChild t child
  child_from_range (Leaf p) a b h (e, f) = omega arith
  child_from_range (Inner i) a b h d = (row_range i a b d).0

  -- and spans it
  pub span_from_range : (child : Child) (a b : ℕ) → HasRange t.keys child a b → span_of t child ≡ b - a
  span_from_range (Leaf p) a b (e, f) = omega arith
  span_from_range (Inner i) a b d = let r = row_range i a b d in omega (arith, r.1, r.2)

  -- the left child of an inner node stands below it
  pub left_below : (child l : Child) (k : ℕ) → k < length t.nodes → child ≡ Inner k →
      HasRange t.keys l (node_at t.nodes k).first (node_at t.nodes k).split → IsBelow t child l
  left_below child l k lt is d = record {
    stands = child_from_range l _ _ (omega (arith, high_at k lt, last_at k lt)) d;
    falls = omega (arith, low_at k lt, high_at k lt, ap (span_of t) is, span_from_range l _ _ d);
  }

  -- so does the right one
  pub right_below : (child r : Child) (k : ℕ) → k < length t.nodes → child ≡ Inner k →
      HasRange t.keys r ((node_at t.nodes k).split + 1) (node_at t.nodes k).last → IsBelow t child r
  right_below child r k lt is d = record {
    stands = child_from_range r _ _ (last_at k lt) d;
    falls = omega (arith, low_at k lt, high_at k lt, ap (span_of t) is, span_from_range r _ _ d);
  }

  -- a leaf is no inner node high, so it beats nothing
  pub leaf_over : (p least a b : ℕ) → HasRange t.keys (Leaf p) a b →
      least ≡ max least (height_of (shape_in t.keys a b))
  leaf_over p least a b (e, f) =
      let none : height_of (shape_in t.keys a b) ≡ 0 =
      ap (λ z. height_of (shape_in t.keys a z)) (sym f ∙ e) ∙ height_of_one t.keys a in
      omega (arith, none)

  -- nor does a subtree of few leaves
  pub few_over : (k least a b : ℕ) → (node_at t.nodes k).last - (node_at t.nodes k).first ≤ least →
      IsNode t.keys k a b → least ≡ max least (height_of (shape_in t.keys a b))
  few_over k least a b few d =
      let same = row_range k a b d in
      omega (arith, few, same.1, same.2, height_le_span t.keys a b)

  -- a node is one higher than its higher child
  node_height : (k : ℕ) → k < length t.nodes → (a b : ℕ) → IsNode t.keys k a b →
      height_of (shape_in t.keys a b)
      ≡ 1 + max (height_of (shape_in t.keys (node_at t.nodes k).first (node_at t.nodes k).split))
      (height_of (shape_in t.keys ((node_at t.nodes k).split + 1) (node_at t.nodes k).last))
  node_height k lt a b d =
      let same = row_range k a b d in
      let x = node_at t.nodes k in
      ap (λ z. height_of (shape_in t.keys z b)) (sym same.1)
      ∙ (ap (λ z. height_of (shape_in t.keys x.first z)) (sym same.2)
      ∙ height_of_fork t.keys table.lawful x.first x.last x.split (proper t.keys table.lawful (range_at k lt))
      (last_at k lt) (split_at k lt))

  -- so what is over its children, each by one less, is over the node
  pub node_over : (k least below l r : ℕ) → k < length t.nodes → below ≡ least - 1 →
      l ≡ max below (height_of (shape_in t.keys (node_at t.nodes k).first (node_at t.nodes k).split)) →
      r ≡ max l (height_of (shape_in t.keys ((node_at t.nodes k).split + 1) (node_at t.nodes k).last)) →
      (a b : ℕ) → IsNode t.keys k a b → 1 + r ≡ max least (height_of (shape_in t.keys a b))
  node_over k least below l r lt less over_left over_right a b d =
      omega (arith, less, over_left, over_right, node_height k lt a b d)

  -- and its bound
  pub over_most : (k least h : ℕ) → k < length t.nodes → least ≤ TAG_WIDTH →
      ((a b : ℕ) → IsNode t.keys k a b → h ≡ max least (height_of (shape_in t.keys a b))) → h ≤ TAG_WIDTH
  over_most k least h lt most value =
      let x = node_at t.nodes k in
      let d = range_at k lt in
      let order = proper t.keys table.lawful d in
      omega (
        arith,
        most,
        value x.first x.last d,
        height_most t.keys table.lawful x.first x.last (omega arith) (last_at k lt),
      )

  -- without inner nodes the tree is no node high
  pub empty_height : length t.nodes ≡ 0 → 0 ≡ height_of (shape_of t.keys)
  unfolding shape_of
  empty_height none =
      let last : length t.keys - 1 ≡ 0 = omega (arith, table.count) in
      sym (height_of_one t.keys 0) ∙ ap (λ z. height_of (shape_in t.keys 0 z)) (sym last)

  -- else it is as high as the root
  pub root_height : (h : ℕ) → 0 < length t.nodes →
      ((a b : ℕ) → IsNode t.keys 0 a b → h ≡ max 0 (height_of (shape_in t.keys a b))) →
      h ≡ height_of (shape_of t.keys)
  unfolding shape_of
  root_height h some value =
      value 0 (length t.keys - 1) (root_node t.keys table.lawful (length t.keys - 1) refl (omega (arith, table.count)))
      ∙ max_zero (height_of (shape_in t.keys 0 (length t.keys - 1)))
