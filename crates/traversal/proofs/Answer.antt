-- The numbers of the whole range, sorted, are the numbers of all boxes that meet the query.
use Rattle.std.proofs.Common.{◌≡◌, ℕ, zero, suc, ◌+◌, ◌-◌, ◌<◌, ◌≤◌, ◌≢◌, refl, sym, ap, ◌∙◌, arith, inl, inr, List, [], ◌∷◌, length, map, get_or, Bool, true, false, cond}
use Rattle.std.specs.Prelude.{◌==◌, All, count_by, filter}
use Rattle.std.specs.List.Sorted.{IsNonDecreasing, IsPermutation}
use Rattle.std.proofs.lemmas.Bool.{cases_eq, cases_lt, cond-true, cond-false, cond_both, eq-eqb, ne_eqb}
use Rattle.std.proofs.lemmas.List.Elements.{All-nil, All-cons, All-weaker, All-from_get_or}
use Rattle.fixed_box.specs.declared.shapes.Box3.{Box3}
use Rattle.fixed_box.specs.Extent.{boxes_meet}
use Rattle.morton_key.specs.declared.keys.Key.{Key}
use Rattle.morton_key.specs.Keys.{key_at, tri_at, IsLawful}
use Rattle.radix_tree.specs.Table.{no_box}
use Rattle.radix_tree.specs.Fit.{box_of_triangle}
use Rattle.traversal.specs.Overlaps.{overlaps_from, overlaps_of}
use Rattle.traversal.specs.Walks.{key_meets, met_in}
use Rattle.traversal.proofs.Slices.{slice_range-whole}
use Rattle.traversal.proofs.Counting.{count_by-cons, count_by-none}
use Rattle.traversal.proofs.Rising.{times, one_rising, times_permuted, times_below}

-- a number in front of a rising list of none smaller
rising-cons : (x : ℕ) (xs : List ℕ) → All (λ y. x ≤ y) xs → IsNonDecreasing xs →
    (i j d : ℕ) → i ≤ j → j < length (x ∷ xs) → get_or (x ∷ xs) i d ≤ get_or (x ∷ xs) j d
rising-cons x xs h k zero zero d le lt = omega arith
rising-cons x xs h k zero (suc j) d le lt = h j d (omega arith)
rising-cons x xs h k (suc i) zero d le lt = absurd (omega arith)
rising-cons x xs h k (suc i) (suc j) d le lt = k i j d (omega arith) (omega arith)

-- another number in front changes no count
times-other : (m n : ℕ) (xs : List ℕ) → n ≢ m → times m (n ∷ xs) ≡ times m xs
times-other m n xs ne =
    omega (arith, count_by-cons (λ x. x == m) n xs, cond-false {A = ℕ} (n == m) 1 0 (ne_eqb n m ne))

-- the number itself adds one
times-same : (m n : ℕ) (xs : List ℕ) → n ≡ m → times m (n ∷ xs) ≡ 1 + times m xs
times-same m n xs e = omega (arith, count_by-cons (λ x. x == m) n xs, cond-true {A = ℕ} (n == m) 1 0 (eq-eqb n m e))

-- the same, where the number is in front only if a test passes
times-other_if : (c : Bool) (m n : ℕ) (xs : List ℕ) → n ≢ m → times m (cond c (n ∷ xs) xs) ≡ times m xs
times-other_if true m n xs ne = times-other m n xs ne
times-other_if false m n xs ne = refl

-- and one that is in front where it passes, in front of none
times-same_if : (c : Bool) (m n : ℕ) (xs : List ℕ) → n ≡ m → times m xs ≡ 0 → times m (cond c (n ∷ xs) xs) ≡ cond c 1 0
times-same_if true m n xs e none = omega (arith, times-same m n xs e)
times-same_if false m n xs e none = none

-- the same, of the numbers of keys
key-other_if : (c : Bool) (m : ℕ) (k : Key) (ks : List Key) → k.tri ≢ m →
    times m (map (λ x. x.tri) (cond c (k ∷ ks) ks)) ≡ times m (map (λ x. x.tri) ks)
key-other_if true m k ks ne = times-other m k.tri (map (λ x. x.tri) ks) ne
key-other_if false m k ks ne = refl

-- and of the key with the number
key-same_if : (c : Bool) (m w : ℕ) (k : Key) (ks : List Key) → k.tri ≡ m → times m (map (λ x. x.tri) ks) ≡ cond c w 0 →
    times m (map (λ x. x.tri) (cond c (k ∷ ks) ks)) ≡ cond c (1 + w) 0
key-same_if true m w k ks e so_far = omega (arith, times-same m k.tri (map (λ x. x.tri) ks) e)
key-same_if false m w k ks e so_far = so_far

-- a choice between equal values
cond_same : (c : Bool) → ◌≡◌ {A = ℕ} (cond c 0 0) 0
cond_same true = refl
cond_same false = refl

module _ (q : Box3) where
  -- the definition's numbers are none below the first
  from_first : (n : ℕ) (boxes : List Box3) → All (λ y. n ≤ y) (overlaps_from n q boxes)
  unfolding overlaps_from
  from_first n [] = All-nil (λ y. n ≤ y)
  from_first n (b ∷ boxes) =
      let rest = overlaps_from (n + 1) q boxes in
      let later = All-weaker (λ y. n + 1 ≤ y) (λ y. n ≤ y) (λ y le. omega arith) rest (from_first (n + 1) boxes) in
      cond_both (boxes_meet b q) (n ∷ rest) rest (λ xs. All (λ y. n ≤ y) xs)
      (λ e. All-cons (λ y. n ≤ y) n rest (omega arith) later) (λ e. later)

  -- and they rise
  from_rises : (n : ℕ) (boxes : List Box3) → IsNonDecreasing (overlaps_from n q boxes)
  unfolding overlaps_from
  from_rises n [] = λ i j d. λ le lt. absurd (omega arith)
  from_rises n (b ∷ boxes) =
      let rest = overlaps_from (n + 1) q boxes in
      let later = All-weaker (λ y. n + 1 ≤ y) (λ y. n ≤ y) (λ y le. omega arith) rest (from_first (n + 1) boxes) in
      cond_both (boxes_meet b q) (n ∷ rest) rest IsNonDecreasing
      (λ e. rising-cons n rest later (from_rises (n + 1) boxes)) (λ e. from_rises (n + 1) boxes)

  -- the definition has a number once where its box meets the query, and else not
  from_times : (m n : ℕ) (boxes : List Box3) → n ≤ m → m < n + length boxes →
      times m (overlaps_from n q boxes) ≡ cond (boxes_meet (get_or boxes (m - n) no_box) q) 1 0
  unfolding overlaps_from
  from_times m n [] low high = absurd (omega arith)
  from_times m n (b ∷ boxes) low high =
      let rest = overlaps_from (n + 1) q boxes in
      elim (cases_eq n m) [
        | inl e ↦
            let first : 0 ≡ m - n = omega arith in
            times-same_if (boxes_meet b q) m n rest e
            (times_below m (n + 1) rest (omega arith) (from_first (n + 1) boxes))
            ∙ ap (λ i. cond (boxes_meet (get_or (b ∷ boxes) i no_box) q) 1 0) first
        | inr ne ↦
            let next : suc (m - (n + 1)) ≡ m - n = omega arith in
            times-other_if (boxes_meet b q) m n rest ne
            ∙ (from_times m (n + 1) boxes (omega arith) (omega arith)
            ∙ ap (λ i. cond (boxes_meet (get_or (b ∷ boxes) i no_box) q) 1 0) next)
      ]

  -- and it has none past the last box
  from_after : (m n : ℕ) (boxes : List Box3) → n + length boxes ≤ m → times m (overlaps_from n q boxes) ≡ 0
  unfolding overlaps_from
  from_after m n [] high = refl
  from_after m n (b ∷ boxes) high =
      times-other_if (boxes_meet b q) m n (overlaps_from (n + 1) q boxes) (λ e. omega arith)
      ∙ from_after m (n + 1) boxes (omega arith)

  -- the keys that are met have a number as often as the keys do, where its box meets the query
  met_times : (boxes : List Box3) (m : ℕ) (keys : List Key) →
      times m (map (λ k. k.tri) (filter (key_meets boxes q) keys))
      ≡ cond (boxes_meet (box_of_triangle boxes m) q) (count_by (λ k. k.tri == m) keys) 0
  unfolding key_meets
  met_times boxes m [] = sym (cond_same (boxes_meet (box_of_triangle boxes m) q))
  met_times boxes m (k ∷ keys) =
      let c = boxes_meet (box_of_triangle boxes m) q in
      let w : ℕ = count_by (λ x. x.tri == m) keys in
      let kept = filter (key_meets boxes q) keys in
      let so_far = met_times boxes m keys in
      let counted = count_by-cons (λ x. x.tri == m) k keys in
      elim (cases_eq k.tri m) [
        | inl e ↦
            let more : count_by (λ x. x.tri == m) (k ∷ keys) ≡ 1 + w =
            counted ∙ ap (λ n. n + w) (cond-true {A = ℕ} (k.tri == m) 1 0 (eq-eqb k.tri m e)) in
            ap (λ z. times m (map (λ x. x.tri) (cond (boxes_meet (box_of_triangle boxes z) q) (k ∷ kept) kept))) e
            ∙ (key-same_if c m w k kept e so_far ∙ ap (λ n. cond c n 0) (sym more))
        | inr ne ↦
            let same : count_by (λ x. x.tri == m) (k ∷ keys) ≡ w =
            omega (arith, counted, cond-false {A = ℕ} (k.tri == m) 1 0 (ne_eqb k.tri m ne)) in
            key-other_if (boxes_meet (box_of_triangle boxes k.tri) q) m k kept ne
            ∙ (so_far ∙ ap (λ n. cond c n 0) (sym same))
      ]

  module _ (keys : List Key) (ok : IsLawful keys) (boxes : List Box3) (boxed : length boxes ≡ length keys) where
    -- a number that no key has is not met
    met_not : (m : ℕ) → ((i : ℕ) → i < length keys → tri_at keys i ≢ m) →
        times m (map (λ k. k.tri) (filter (key_meets boxes q) keys)) ≡ 0
    unfolding tri_at key_at
    met_not m others =
        let none = count_by-none (λ k. k.tri == m) keys
        (All-from_get_or (λ k. (k.tri == m) ≡ false) keys (record { code = 0; tri = 0 })
        (λ i lt. ne_eqb _ m (others i lt))) in
        let c = boxes_meet (box_of_triangle boxes m) q in
        met_times boxes m keys ∙ (ap (λ n. cond c n 0) none ∙ cond_same c)

    -- what is met of all keys has each number as often as the definition
    met_as_defined : (m : ℕ) →
        times m (map (λ k. k.tri) (filter (key_meets boxes q) keys)) ≡ times m (overlaps_of boxes q)
    unfolding overlaps_of box_of_triangle
    met_as_defined m = elim (cases_lt m 1) [
      | inl low ↦ met_not m (λ i lt e. omega (arith, ok.from_one i lt))
          ∙ sym (times_below m 1 (overlaps_from 1 q boxes) low (from_first 1 boxes))
      | inr some ↦ elim (cases_lt (length keys) m) [
        | inl high ↦ met_not m (λ i lt e. omega (arith, ok.to_count i lt)) ∙ sym (from_after m 1 boxes (omega arith))
        | inr within ↦
            met_times boxes m keys
            ∙ (ap (λ n. cond (boxes_meet (box_of_triangle boxes m) q) n 0) (ok.each_once m some within)
            ∙ sym (from_times m 1 boxes some (omega arith)))
      ]
    ]

    -- sorted, it is the definition's list
    pub answer_is : (xs : List ℕ) → IsPermutation (met_in keys boxes q 0 (length keys - 1)) xs → IsNonDecreasing xs →
        xs ≡ overlaps_of boxes q
    unfolding met_in overlaps_of
    answer_is xs moved rises =
        let whole = slice_range-whole keys (length keys - 1 + 1) (omega arith) in
        one_rising xs (overlaps_from 1 q boxes) rises (from_rises 1 boxes) (λ m.
        times_permuted m (met_in keys boxes q 0 (length keys - 1)) xs moved
        ∙ (ap (λ ks. times m (map (λ k. k.tri) (filter (key_meets boxes q) ks))) whole ∙ met_as_defined m))
