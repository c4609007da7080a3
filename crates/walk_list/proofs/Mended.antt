-- Boxes and positions of leaves that moved.
use Rattle.std.proofs.Common.{◌≡◌, ℕ, ◌+◌, ◌≤◌, arith, inl, inr, subst, List, [], ◌∷◌, length, get_or, true, false, nat_lt}
use Rattle.std.proofs.Math.Dec.{ltb}
use Rattle.std.specs.List.Sorted.{IsNonDecreasing, IsPartitionedBy}
use Rattle.std.specs.List.{AllWithin}
use Rattle.std.proofs.lemmas.Bool.{ltb-true, ltb-false, lt-ltb, cases_lt}
use Rattle.std.proofs.lemmas.List.Elements.{All-nil, All-cons}
use Rattle.fixed_box.specs.declared.shapes.Box3.{Box3}
use Rattle.fixed_box.specs.Boxes.{Contains, IsLeastBox}
use Rattle.fixed_box.specs.World.{BoxInWorld}
use Rattle.fixed_box.proofs.LeastBoxes.{contains_first, contains_second}
use Rattle.fixed_box.proofs.InTheWorld.{least_box_in_world}
use Rattle.walk_list.specs.declared.records.Leaf.{Leaf}
use Rattle.walk_list.specs.Leaves.{leaf_at}
use Rattle.walk_list.specs.Covering.{Bounds}
use Rattle.walk_list.specs.Stale.{IsMovedBetween}

-- the box of one leaf
pub one_bounds : (leaves : List Leaf) (p : ℕ) → BoxInWorld (leaf_at leaves p).fit →
    Bounds leaves (leaf_at leaves p).fit p (p + 1)
one_bounds leaves p world = record {
  order = omega arith;
  world = world;
  each = λ i low high.
      let at : p ≡ i = omega arith in
      subst (λ z. Contains (leaf_at leaves p).fit (leaf_at leaves z).fit) at (λ point here. here);
}

-- the least box round those of two parts
pub union_bounds : (leaves : List Leaf) (f g u : Box3) (a m b : ℕ) → Bounds leaves f a m → Bounds leaves g m b →
    IsLeastBox (f ∷ g ∷ []) u → Bounds leaves u a b
union_bounds leaves f g u a m b before behind least = record {
  order = omega (arith, before.order, behind.order);
  world = least_box_in_world (f ∷ g ∷ []) u
      (All-cons BoxInWorld f (g ∷ []) before.world (All-cons BoxInWorld g [] behind.world (All-nil BoxInWorld))) least;
  each = λ p low high. elim (cases_lt p m) [
    | inl lt ↦ λ point h. contains_first u f g least.contains point (before.each p low lt point h)
    | inr le ↦ λ point h. contains_second u f g least.contains point (behind.each p le high point h)
  ];
}

-- those below a number come first
pub parted_below : (moved : List ℕ) (first : ℕ) → IsNonDecreasing moved → IsPartitionedBy (λ x. ltb x first) moved
parted_below moved first rising i j d le lt below =
    let ordered = rising i j d le lt in
    lt-ltb _ _ (omega (arith, ordered, ltb-true _ _ below))

module _ (moved : List ℕ) (first end next : ℕ) (below : AllWithin (λ x. ltb x first ≡ true) moved 0 next) where
  -- none of them is at or above it
  before_next : (k : ℕ) → first ≤ get_or moved k 0 → next ≤ k
  before_next k le = elim (cases_lt k next) [
    | inl lt ↦ absurd (omega (arith, ltb-true _ _ (below k 0 (omega arith) lt), le))
    | inr past ↦ past
  ]

  -- where the first that is not below is past the end, none is between
  pub none_between : IsNonDecreasing moved → nat_lt (get_or moved next 0) end ≡ false →
      IsMovedBetween moved first end → ⊥
  none_between rising e (k, lt, low, high) =
      let ordered = rising next k 0 (before_next k low) lt in
      omega (arith, ordered, high, ltb-false _ _ e)

  -- and where there is no such one
  pub none_behind : nat_lt next (length moved) ≡ false → IsMovedBetween moved first end → ⊥
  none_behind e (k, lt, low, high) = omega (arith, before_next k low, lt, ltb-false _ _ e)
