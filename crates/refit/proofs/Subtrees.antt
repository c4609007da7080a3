-- The nodes of a subtree: its own, and those of its children's subtrees.
use Rattle.std.proofs.Common.{◌≡◌, ℕ, ◌+◌, ◌<◌, ◌⊎◌, inl, inr, refl, sym, ap, ◌∙◌, arith, subst, List, length}
use Rattle.morton_key.specs.declared.keys.Key.{Key}
use Rattle.morton_key.specs.Keys.{IsLawful}
use Rattle.radix_tree.specs.declared.nodes.Child.{Child}
use Rattle.radix_tree.specs.declared.nodes.Child.TheVariants.{Leaf, Inner}
use Rattle.radix_tree.specs.Ranges.{IsNode, HasRange}
use Rattle.radix_tree.specs.Table.{Contents, node_at, IsTable}
use Rattle.radix_tree.specs.Filling.{IsChild, span_of, IsBelow}
use Rattle.radix_tree.proofs.NumberLaws.{proper}
use Rattle.radix_tree.proofs.NodeLaws.{node_end, one_number, left_node, right_node}
use Rattle.radix_tree.proofs.DescentLaws.{low_at, high_at, last_at, row_range, child_from_range, span_from_range}
use Rattle.radix_tree.proofs.FillLaws.{below_cases, none_below}
use Rattle.refit.specs.Subtrees.{IsUnder}

-- a child with a range has the nodes whose numbers are below that range
under_child : (keys : List Key) → IsLawful keys → (child : Child) (number a b k : ℕ) →
    HasRange keys child a b → (number ≡ a) ⊎ (number ≡ b) → (a < b → IsNode keys number a b) →
    IsBelow number a b k → IsUnder keys child k
under_child keys ok (Leaf p) number a b k range end node below =
    none_below number a b k ⊥ (sym range.0 ∙ range.1) end below
under_child keys ok (Inner i) number a b k range end node below =
    let same : number ≡ i = one_number keys ok (node (proper keys ok range)) range in
    (a, b, range, subst (λ j. IsBelow j a b k) same below)

-- the two children of the node of a number
pub record AreChildren (t : Contents) (number : ℕ) (first second : Child) : Type 0 where
  pub inside : number < length t.nodes
  pub of_first : HasRange t.keys first (node_at t.nodes number).first (node_at t.nodes number).split
  pub of_second : HasRange t.keys second ((node_at t.nodes number).split + 1) (node_at t.nodes number).last

-- those of an inner child, as they are read
pub children : (t : Contents) (number : ℕ) (child first second : Child) → child ≡ Inner number → IsChild t child →
    HasRange t.keys first (node_at t.nodes number).first (node_at t.nodes number).split →
    HasRange t.keys second ((node_at t.nodes number).split + 1) (node_at t.nodes number).last →
    AreChildren t number first second
children t number child first second is here of_first of_second =
    record { inside = subst (IsChild t) is here; of_first = of_first; of_second = of_second }

module _ (t : Contents) (table : IsTable t) (number : ℕ) (first second : Child)
    (kids : AreChildren t number first second) where
  -- the first stands in the tree, and spans less than the node
  pub first_child : IsChild t first
  first_child = child_from_range t table first _ _
      (omega (arith, high_at t table number kids.inside, last_at t table number kids.inside)) kids.of_first

  -- it spans less
  pub first_smaller : span_of t first < span_of t (Inner number)
  first_smaller = omega (
    arith,
    low_at t table number kids.inside,
    high_at t table number kids.inside,
    span_from_range t table first _ _ kids.of_first,
  )

  -- and so does the second, in a later tree over the same keys
  module _ (u : Contents) (later : IsTable u) (keys : u.keys ≡ t.keys) where
    -- it has its range there too
    range_there : HasRange u.keys second ((node_at t.nodes number).split + 1) (node_at t.nodes number).last
    range_there = subst (λ ks. HasRange ks second ((node_at t.nodes number).split + 1) (node_at t.nodes number).last)
        (sym keys) kids.of_second

    -- it stands in that tree
    pub second_child : IsChild u second
    second_child = child_from_range u later second _ _
        (omega (arith, last_at t table number kids.inside, ap length keys)) range_there

    -- and spans less
    pub second_smaller : span_of u second < span_of t (Inner number)
    second_smaller = omega (
      arith,
      low_at t table number kids.inside,
      high_at t table number kids.inside,
      span_from_range u later second _ _ range_there,
    )

  -- the nodes of the subtree are its own and theirs
  pub under_cases : (k : ℕ) → IsUnder t.keys (Inner number) k →
      (k ≡ number) ⊎ (IsUnder t.keys first k ⊎ IsUnder t.keys second k)
  under_cases k (a, b, node, below) =
      let x = node_at t.nodes number in
      let range = (table.each number kids.inside).range in
      let part = (table.each number kids.inside).part in
      let same = row_range t table number a b node in
      let here : IsBelow number x.first x.last k =
      subst (λ z. IsBelow number x.first z k) (sym same.2) (subst (λ z. IsBelow number z b k) (sym same.1) below) in
      elim (below_cases number x.first x.last x.split k (low_at t table number kids.inside)
      (high_at t table number kids.inside) (node_end t.keys table.lawful range) here) [
        | inl own ↦ inl own
        | inr (inl left) ↦ inr (inl (under_child t.keys table.lawful first x.split x.first x.split k kids.of_first
            (inr refl) (left_node t.keys table.lawful range x.split part) left))
        | inr (inr right) ↦ inr (inr (under_child t.keys table.lawful second (x.split + 1) (x.split + 1) x.last k
            kids.of_second (inl refl) (right_node t.keys table.lawful range x.split part) right))
      ]
