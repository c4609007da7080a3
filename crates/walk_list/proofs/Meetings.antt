-- Which leaves between two positions have boxes that meet a box.
use Rattle.std.proofs.Common.{◌≡◌, ℕ, zero, suc, ◌+◌, ◌-◌, ◌<◌, ◌≤◌, sym, ap, ◌∙◌, arith, List, [], ◌∷◌, ◌++◌, length, map, append-nil, append_assoc, true, false}
use Rattle.std.specs.Prelude.{filter, slice_range}
use Rattle.std.proofs.lemmas.Bool.{cond-true, cond-false}
use Rattle.std.proofs.lemmas.List.{map-append}
use Rattle.std.proofs.lemmas.List.Elements.{filter-append}
use Rattle.fixed_box.specs.declared.shapes.Box3.{Box3}
use Rattle.fixed_box.specs.Extent.{boxes_meet}
use Rattle.traversal.proofs.Slices.{slice_range-one, slice_range-none, slice_range-parted, slice_range-whole}
use Rattle.traversal.proofs.Pruning.{contained_misses}
use Rattle.walk_list.specs.declared.records.Leaf.{Leaf}
use Rattle.walk_list.specs.Leaves.{no_leaf, leaf_at, leaf_meets, met_of, met_between}
use Rattle.walk_list.specs.Covering.{Bounds}

module _ (leaves : List Leaf) (q : Box3) where
  -- none between a position and itself
  pub met_between-none : (a b : ℕ) → b ≤ a → met_between leaves q a b ≡ []
  unfolding met_between met_of
  met_between-none a b le =
      ap (λ ls. map (λ (l : Leaf). l.number) (filter (leaf_meets q) ls)) (slice_range-none leaves a b le)

  -- those of two parts
  pub met_between-parted : (a s b : ℕ) → a ≤ s → s ≤ b →
      met_between leaves q a b ≡ met_between leaves q a s ++ met_between leaves q s b
  unfolding met_between met_of
  met_between-parted a s b low high =
      let xs = slice_range leaves a s in
      let ys = slice_range leaves s b in
      ap (λ ls. map (λ (l : Leaf). l.number) (filter (leaf_meets q) ls)) (slice_range-parted leaves a s b low high)
      ∙ (ap (map (λ (l : Leaf). l.number)) (filter-append (leaf_meets q) xs ys)
      ∙ map-append (λ (l : Leaf). l.number) (filter (leaf_meets q) xs) (filter (leaf_meets q) ys))

  -- one leaf whose box meets
  met_between-one : (p : ℕ) → p < length leaves → boxes_meet (leaf_at leaves p).fit q ≡ true →
      met_between leaves q p (p + 1) ≡ (leaf_at leaves p).number ∷ []
  unfolding met_between met_of leaf_meets leaf_at
  met_between-one p lt e =
      ap (λ ls. map (λ (l : Leaf). l.number) (filter (leaf_meets q) ls)) (slice_range-one leaves p no_leaf lt)
      ∙ ap (map (λ (l : Leaf). l.number)) (cond-true _ _ _ e)

  -- and one whose box misses
  met_between-missed : (p : ℕ) → p < length leaves → boxes_meet (leaf_at leaves p).fit q ≡ false →
      met_between leaves q p (p + 1) ≡ []
  unfolding met_between met_of leaf_meets leaf_at
  met_between-missed p lt e =
      ap (λ ls. map (λ (l : Leaf). l.number) (filter (leaf_meets q) ls)) (slice_range-one leaves p no_leaf lt)
      ∙ ap (map (λ (l : Leaf). l.number)) (cond-false _ _ _ e)

  -- a leaf whose box meets is added
  pub with_leaf : (a p : ℕ) (before now : List ℕ) → a ≤ p → p < length leaves →
      boxes_meet (leaf_at leaves p).fit q ≡ true → now ≡ before ++ met_between leaves q a p →
      now ++ (leaf_at leaves p).number ∷ [] ≡ before ++ met_between leaves q a (p + 1)
  with_leaf a p before now le lt e so_far =
      ap (λ xs. xs ++ (leaf_at leaves p).number ∷ []) so_far
      ∙ (append_assoc before (met_between leaves q a p) _
      ∙ ap (λ xs. before ++ xs)
      (sym (met_between-parted a p (p + 1) le (omega arith)
      ∙ ap (λ xs. met_between leaves q a p ++ xs) (met_between-one p lt e))))

  -- and one whose box misses is not
  pub without_leaf : (a p : ℕ) (before now : List ℕ) → a ≤ p → p < length leaves →
      boxes_meet (leaf_at leaves p).fit q ≡ false → now ≡ before ++ met_between leaves q a p →
      now ≡ before ++ met_between leaves q a (p + 1)
  without_leaf a p before now le lt e so_far =
      so_far
      ∙ ap (λ xs. before ++ xs)
      (sym (met_between-parted a p (p + 1) le (omega arith)
      ∙ (ap (λ xs. met_between leaves q a p ++ xs) (met_between-missed p lt e) ∙ append-nil _)))

  -- where the boxes of so many leaves miss, none is met
  none_of : (n a : ℕ) → a + n ≤ length leaves →
      ((p : ℕ) → a ≤ p → p < a + n → boxes_meet (leaf_at leaves p).fit q ≡ false) → met_between leaves q a (a + n) ≡ []
  none_of zero a le h = met_between-none a (a + zero) (omega arith)
  none_of (suc n) a le h =
      let next : a + suc n ≡ a + n + 1 = omega arith in
      let rest = none_of n a (omega arith) (λ p low high. h p low (omega arith)) in
      ap (met_between leaves q a) next
      ∙ (met_between-parted a (a + n) (a + n + 1) (omega arith) (omega arith)
      ∙ (ap (λ xs. xs ++ met_between leaves q (a + n) (a + n + 1)) rest
      ∙ met_between-missed (a + n) (omega arith) (h (a + n) (omega arith) (omega arith))))

  -- below a box that misses none is met
  pub missed : (fit : Box3) (a b : ℕ) → Bounds leaves fit a b → b ≤ length leaves → boxes_meet fit q ≡ false →
      met_between leaves q a b ≡ []
  missed fit a b h le e =
      let order = h.order in
      let end : b ≡ a + (b - a) = omega arith in
      ap (met_between leaves q a) end
      ∙ none_of (b - a) a (omega arith)
      (λ p low high. contained_misses fit (leaf_at leaves p).fit q (h.each p low (omega arith)) e)

  -- all leaves are those between the first position and the last
  pub met_between-whole : (b : ℕ) → length leaves ≤ b → met_between leaves q 0 b ≡ met_of q leaves
  unfolding met_between
  met_between-whole b le = ap (met_of q) (slice_range-whole leaves b le)
