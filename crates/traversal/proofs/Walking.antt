-- One step of the walk: what it adds and how many boxes it tests at a node, from what it did at the children.
use Rattle.std.proofs.Common.{◌≡◌, ℕ, ◌+◌, ◌-◌, ◌*◌, ◌^◌, ◌<◌, ◌≤◌, sym, ap, ◌∙◌, arith, List, ◌++◌, length, subst, append-nil, append_assoc, true, false}
use Rattle.std.proofs.lemmas.Bool.{cond-true}
use Rattle.fixed_box.specs.declared.shapes.Box3.{Box3}
use Rattle.fixed_box.specs.Extent.{boxes_meet}
use Rattle.radix_tree.specs.declared.nodes.Node.{Node}
use Rattle.radix_tree.specs.declared.nodes.Child.{Child}
use Rattle.radix_tree.specs.declared.nodes.Child.TheVariants.{Leaf, Inner}
use Rattle.radix_tree.specs.Ranges.{IsNode, HasRange}
use Rattle.radix_tree.specs.Table.{Contents, node_at, IsTable}
use Rattle.radix_tree.specs.Fit.{IsFitted}
use Rattle.radix_tree.specs.Filling.{IsChild, span_of}
use Rattle.radix_tree.proofs.NumberLaws.{proper}
use Rattle.radix_tree.proofs.DescentLaws.{low_at, high_at, last_at, row_range, left_below, right_below}
use Rattle.traversal.specs.Walks.{met_in, met_below}
use Rattle.traversal.proofs.Pruning.{missed_node_meets_none}
use Rattle.traversal.proofs.Parts.{met_in-parted, below-leaf}
use Rattle.traversal.proofs.Subtrees.{below-node, below-few, below-missed}

-- a leaf is one test
pub leaf_tests : (t : Contents) (q : Box3) (child : Child) (p a b : ℕ) → child ≡ Leaf p →
    1 ≡ 1 + 2 * met_below t.nodes q child a b
leaf_tests t q child p a b e = omega (arith, ap (λ x. met_below t.nodes q x a b) e, below-leaf t.nodes q p a b)

-- the walk stands at an inner node of a fitted tree
pub record AtNode (t : Contents) (boxes : List Box3) (child : Child) (k : ℕ) : Type 0 where
  pub table : IsTable t
  pub fitted : IsFitted t boxes
  pub is : child ≡ Inner k
  pub inside : k < length t.nodes

-- what the walk requires and its match say that
pub at_node : (t : Contents) (boxes : List Box3) (child : Child) (k : ℕ) → IsTable t → IsFitted t boxes →
    IsChild t child → child ≡ Inner k → AtNode t boxes child k
at_node t boxes child k table fitted stands is =
    record { table = table; fitted = fitted; is = is; inside = subst (IsChild t) is stands }

module _ {t : Contents} {boxes : List Box3} {child : Child} {k : ℕ} (here : AtNode t boxes child k) where
  -- the node
  abbrev node : Node
  node = node_at t.nodes k

  -- a range of the child is the node's
  pub own_range : (a b : ℕ) → HasRange t.keys child a b → (node.first ≡ a) × (node.last ≡ b)
  own_range a b d =
      let row = row_range t here.table k a b (subst (λ x. HasRange t.keys x a b) here.is d) in (row.1, row.2)

  -- its split lies in its range, before the end
  pub low : node.first ≤ node.split
  low = low_at t here.table k here.inside

  -- before the end
  pub high : node.split < node.last
  high = high_at t here.table k here.inside

  -- and the range among the positions
  pub within : node.last < length t.keys
  within = last_at t here.table k here.inside

  -- the left child stands in the tree
  pub left_is_child : (l : Child) → HasRange t.keys l node.first node.split → IsChild t l
  left_is_child l d = (left_below t here.table child l k here.inside here.is d).stands

  -- and spans less
  pub left_falls : (l : Child) → HasRange t.keys l node.first node.split → span_of t l < span_of t child
  left_falls l d = (left_below t here.table child l k here.inside here.is d).falls

  -- the right child stands in the tree
  pub right_is_child : (r : Child) → HasRange t.keys r (node.split + 1) node.last → IsChild t r
  right_is_child r d = (right_below t here.table child r k here.inside here.is d).stands

  -- and spans less
  pub right_falls : (r : Child) → HasRange t.keys r (node.split + 1) node.last → span_of t r < span_of t child
  right_falls r d = (right_below t here.table child r k here.inside here.is d).falls

  module _ (q : Box3) where
    -- at a node whose box misses the query nothing is added
    pub missed_numbers : boxes_meet node.fit q ≡ false → (before : List ℕ) (a b : ℕ) → HasRange t.keys child a b →
        before ≡ before ++ met_in t.keys boxes q a b
    missed_numbers misses before a b d =
        let row = own_range a b d in
        let none = missed_node_meets_none t boxes here.fitted q k here.inside misses in
        sym (ap (λ xs. before ++ xs) (ap (λ z. met_in t.keys boxes q z b) (sym row.0)
        ∙ (ap (met_in t.keys boxes q node.first) (sym row.1) ∙ none)) ∙ append-nil before)

    -- and one box was tested
    pub missed_tests : boxes_meet node.fit q ≡ false → (a b : ℕ) → HasRange t.keys child a b →
        1 ≡ 1 + 2 * met_below t.nodes q child a b
    missed_tests misses a b d =
        let n : IsNode t.keys k a b = subst (λ x. HasRange t.keys x a b) here.is d in
        let order = proper t.keys here.table.lawful n in
        let none = below-missed t here.table boxes here.fitted q (b - a) k a b n (omega arith) misses in
        omega (arith, ap (λ x. met_below t.nodes q x a b) here.is, none)

    -- at any other the left child's triangles are added, and then the right one's
    pub met_numbers : (before middle after : List ℕ) →
        middle ≡ before ++ met_in t.keys boxes q node.first node.split →
        after ≡ middle ++ met_in t.keys boxes q (node.split + 1) node.last →
        (a b : ℕ) → HasRange t.keys child a b → after ≡ before ++ met_in t.keys boxes q a b
    met_numbers before middle after on_left on_right a b d =
        let row = own_range a b d in
        let first = met_in t.keys boxes q node.first node.split in
        let then = met_in t.keys boxes q (node.split + 1) node.last in
        let whole = sym (met_in-parted t.keys boxes q node.first node.split node.last low high)
        ∙ (ap (λ z. met_in t.keys boxes q z node.last) row.0 ∙ ap (met_in t.keys boxes q a) row.1) in
        on_right
        ∙ (ap (λ xs. xs ++ then) on_left ∙ (append_assoc before first then ∙ ap (λ xs. before ++ xs) whole))

    -- and the tests are the node's own and theirs
    pub met_tests : boxes_meet node.fit q ≡ true → (l r : Child) (m n : ℕ) →
        HasRange t.keys l node.first node.split → HasRange t.keys r (node.split + 1) node.last →
        m ≡ 1 + 2 * met_below t.nodes q l node.first node.split →
        n ≡ 1 + 2 * met_below t.nodes q r (node.split + 1) node.last →
        (a b : ℕ) → HasRange t.keys child a b → 1 + m + n ≡ 1 + 2 * met_below t.nodes q child a b
    met_tests meets l r m n range_l range_r on_left on_right a b d =
        let row = own_range a b d in
        let whole : met_below t.nodes q (Inner k) node.first node.last ≡ met_below t.nodes q child a b =
        ap (λ z. met_below t.nodes q (Inner k) z node.last) row.0
        ∙ (ap (met_below t.nodes q (Inner k) a) row.1 ∙ ap (λ z. met_below t.nodes q z a b) (sym here.is)) in
        let own = cond-true {A = ℕ} (boxes_meet node.fit q) 1 0 meets in
        omega (arith, whole, on_left, on_right, below-node t here.table q k here.inside l r range_l range_r, own)

    -- which are few
    pub few_tests : (n : ℕ) → ((a b : ℕ) → HasRange t.keys child a b → n ≡ 1 + 2 * met_below t.nodes q child a b) →
        n < 2 ^ 22
    few_tests n value =
        let d = (here.table.each k here.inside).range in
        let tests = value node.first node.last (subst (λ z. HasRange t.keys z node.first node.last) (sym here.is) d) in
        let order : node.first ≤ node.last = omega (arith, low, high) in
        omega (arith, tests, below-few t q child node.first node.last order within, here.table.lawful.few)
