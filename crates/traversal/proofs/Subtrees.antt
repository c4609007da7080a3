-- Which nodes stand below a node, by number, and how many of them have a box that meets the query.
use Rattle.std.proofs.Common.{◌≡◌, ℕ, suc, zero, ◌+◌, ◌<◌, ◌≤◌, sym, ap, ◌∙◌, arith, inl, inr, List, length, false, cond}
use Rattle.std.specs.Prelude.{slice_range}
use Rattle.std.proofs.lemmas.Bool.{cases_eq, cond-false}
use Rattle.fixed_box.specs.declared.shapes.Box3.{Box3}
use Rattle.fixed_box.specs.Extent.{boxes_meet}
use Rattle.radix_tree.specs.declared.nodes.Node.{Node}
use Rattle.radix_tree.specs.declared.nodes.Child.{Child}
use Rattle.radix_tree.specs.declared.nodes.Child.TheVariants.{Leaf, Inner}
use Rattle.radix_tree.specs.Ranges.{IsNode, HasRange}
use Rattle.radix_tree.specs.Table.{Contents, node_at, IsTable}
use Rattle.radix_tree.specs.Fit.{IsFitted}
use Rattle.radix_tree.proofs.NumberLaws.{proper}
use Rattle.radix_tree.proofs.NodeLaws.{one_number}
use Rattle.radix_tree.proofs.DescentLaws.{low_at, high_at, last_at, left_at, right_at, row_range}
use Rattle.traversal.specs.Walks.{count_meeting, met_below}
use Rattle.traversal.proofs.Parts.{count-parted, count-one, count-none, count-few, at_most_one, below-inner, below-leaf}
use Rattle.traversal.proofs.Pruning.{box_contains_below, contained_misses}

module _ (t : Contents) (table : IsTable t) (q : Box3) (k : ℕ) (lt : k < length t.nodes) where
  -- the node of that number
  abbrev node : Node
  node = node_at t.nodes k

  -- the nodes below its left child have the numbers behind its first position, up to the split
  pub below-left : (child : Child) → HasRange t.keys child node.first node.split →
      met_below t.nodes q child node.first node.split
      ≡ count_meeting (slice_range t.nodes (node.first + 1) (node.split + 1)) q
  below-left (Leaf p) (e, f) = below-leaf t.nodes q p _ _ ∙ sym (count-none t.nodes q _ _ (omega arith))
  below-left (Inner i) d =
      let order : node.first < node.split = proper t.keys table.lawful d in
      let number : i ≡ node.split = one_number t.keys table.lawful d (left_at t table k lt (λ e. omega arith)) in
      let inside : node.split < length t.nodes =
      omega (arith, high_at t table k lt, last_at t table k lt, table.count) in
      omega (
        arith,
        below-inner t.nodes q i node.first node.split,
        ap (λ z. cond {A = ℕ} (boxes_meet (node_at t.nodes z).fit q) 1 0) number,
        count-parted t.nodes q (node.first + 1) node.split (node.split + 1) (omega arith) (omega arith),
        count-one t.nodes q node.split inside,
      )

  -- and those below its right child the numbers behind the split, up to the last position but one
  pub below-right : (child : Child) → HasRange t.keys child (node.split + 1) node.last →
      met_below t.nodes q child (node.split + 1) node.last
      ≡ count_meeting (slice_range t.nodes (node.split + 1) node.last) q
  below-right (Leaf p) (e, f) = below-leaf t.nodes q p _ _ ∙ sym (count-none t.nodes q _ _ (omega arith))
  below-right (Inner i) d =
      let order : node.split + 1 < node.last = proper t.keys table.lawful d in
      let number : i ≡ node.split + 1 = one_number t.keys table.lawful d (right_at t table k lt (λ e. omega arith)) in
      let inside : node.split + 1 < length t.nodes = omega (arith, last_at t table k lt, table.count) in
      omega (
        arith,
        below-inner t.nodes q i (node.split + 1) node.last,
        ap (λ z. cond {A = ℕ} (boxes_meet (node_at t.nodes z).fit q) 1 0) number,
        count-parted t.nodes q (node.split + 1) (node.split + 1 + 1) node.last (omega arith) (omega arith),
        count-one t.nodes q (node.split + 1) inside,
      )

  -- a node counts itself and what stands between the ends of its range, on the left and on the right
  pub below-both : met_below t.nodes q (Inner k) node.first node.last
      ≡ cond (boxes_meet node.fit q) 1 0 + (count_meeting (slice_range t.nodes (node.first + 1) (node.split + 1)) q
      + count_meeting (slice_range t.nodes (node.split + 1) node.last) q)
  below-both =
      let low = low_at t table k lt in
      let high = high_at t table k lt in
      omega (
        arith,
        below-inner t.nodes q k node.first node.last,
        count-parted t.nodes q (node.first + 1) (node.split + 1) node.last (omega arith) (omega arith),
      )

  -- and so itself and what its children count
  pub below-node : (l r : Child) → HasRange t.keys l node.first node.split →
      HasRange t.keys r (node.split + 1) node.last → met_below t.nodes q (Inner k) node.first node.last
      ≡ cond (boxes_meet node.fit q) 1 0
      + (met_below t.nodes q l node.first node.split + met_below t.nodes q r (node.split + 1) node.last)
  below-node l r on_left on_right = omega (arith, below-both, below-left l on_left, below-right r on_right)

-- a child counts no more nodes than there are keys
pub below-few : (t : Contents) (q : Box3) (child : Child) (a b : ℕ) → a ≤ b → b < length t.keys →
    met_below t.nodes q child a b ≤ length t.keys
below-few t q (Leaf p) a b order lt = omega (arith, below-leaf t.nodes q p a b)
below-few t q (Inner i) a b order lt = omega (
  arith,
  below-inner t.nodes q i a b,
  at_most_one (boxes_meet (node_at t.nodes i).fit q),
  count-few t.nodes q (a + 1) b,
)

module _ (t : Contents) (table : IsTable t) (boxes : List Box3) (fitted : IsFitted t boxes) (q : Box3) where
  -- a node below one whose box misses the query has a box that misses it
  missed : (k j a b : ℕ) → k < length t.nodes → boxes_meet (node_at t.nodes k).fit q ≡ false → IsNode t.keys j a b →
      (node_at t.nodes k).first ≤ a → b ≤ (node_at t.nodes k).last → boxes_meet (node_at t.nodes j).fit q ≡ false
  missed k j a b lt e d low high =
      let row = row_range t table j a b d in
      let order = proper t.keys table.lawful d in
      let contains = box_contains_below t boxes fitted k j lt row.0 (omega (arith, row.1))
      (omega (arith, row.1, row.2))
      (omega (arith, row.2)) in
      contained_misses (node_at t.nodes k).fit (node_at t.nodes j).fit q contains e

  -- so none of them counts
  pub below-missed : (f k a b : ℕ) → IsNode t.keys k a b → b ≤ a + f → boxes_meet (node_at t.nodes k).fit q ≡ false →
      met_below t.nodes q (Inner k) a b ≡ 0
  below-missed zero k a b d few e = absurd (omega (arith, proper t.keys table.lawful d))
  below-missed (suc f) k a b d few e =
      let row = row_range t table k a b d in
      let x = node_at t.nodes k in
      let low = low_at t table k row.0 in
      let high = high_at t table k row.0 in
      let left : count_meeting (slice_range t.nodes (x.first + 1) (x.split + 1)) q ≡ 0 =
      elim (cases_eq x.first x.split) [
        | inl leaf ↦ count-none t.nodes q (x.first + 1) (x.split + 1) (omega arith)
        | inr ne ↦
            let c = left_at t table k row.0 ne in
            let misses = missed k x.split x.first x.split row.0 e c (omega arith) (omega arith) in
            sym (below-left t table q k row.0 (Inner x.split) c)
            ∙ below-missed f x.split x.first x.split c (omega (arith, row.1, row.2)) misses
      ] in
      let right : count_meeting (slice_range t.nodes (x.split + 1) x.last) q ≡ 0 =
      elim (cases_eq (x.split + 1) x.last) [
        | inl leaf ↦ count-none t.nodes q (x.split + 1) x.last (omega arith)
        | inr ne ↦
            let c = right_at t table k row.0 ne in
            let misses = missed k (x.split + 1) (x.split + 1) x.last row.0 e c (omega arith) (omega arith) in
            sym (below-right t table q k row.0 (Inner (x.split + 1)) c)
            ∙ below-missed f (x.split + 1) (x.split + 1) x.last c (omega (arith, row.1, row.2)) misses
      ] in
      let own = cond-false {A = ℕ} (boxes_meet x.fit q) 1 0 e in
      let whole : met_below t.nodes q (Inner k) x.first x.last ≡ 0 =
      omega (arith, below-both t table q k row.0, own, left, right) in
      ap (λ z. met_below t.nodes q (Inner k) z b) (sym row.1)
      ∙ (ap (met_below t.nodes q (Inner k) x.first) (sym row.2) ∙ whole)
