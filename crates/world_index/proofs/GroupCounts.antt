-- The counts of groups, after one triangle more.
use Rattle.std.proofs.Common.{◌≡◌, ◌<◌, ◌≤◌, ◌+◌, ℕ, zero, suc, List, [], ◌∷◌, length, take, get_or, set, replicate, refl, sym, ap, ap₂, ◌∙◌, arith, ◌==◌}
use Rattle.std.proofs.lemmas.Bool.{eq-eqb, ne_eqb}
use Rattle.std.proofs.lemmas.List.Sums.{count_by-le-length, count_by_more_yes, count_by_more_no}
use Rattle.world_index.specs.Worlds.{count_in, groups_from}
use Rattle.world_index.specs.Grouping.{counts_from, side_by_side}

-- there is one count for each place
pub length-counts : (place n : ℕ) (xs : List ℕ) → length (counts_from place n xs) ≡ n
length-counts place zero xs = refl
length-counts place (suc n) xs = ap suc (length-counts (place + 1) n xs)

-- with no triangle each count is 0
pub counts_of_none : (place n : ℕ) → counts_from place n [] ≡ replicate n 0
counts_of_none place zero = refl
counts_of_none place (suc n) = ap (λ cs. 0 ∷ cs) (counts_of_none (place + 1) n)

-- a count is at most that of the triangles
pub count_few : (xs : List ℕ) (place n i x : ℕ) → i < n → x ≡ get_or (counts_from place n xs) i x → x ≤ length xs
count_few xs place zero i x lt e = absurd (omega arith)
count_few xs place (suc n) zero x lt e = let few = count_by-le-length (λ p. p == place) xs in omega (arith, e, few)
count_few xs place (suc n) (suc i) x lt e = count_few xs (place + 1) n i x (omega arith) e

module _ (xs : List ℕ) (k : ℕ) (within : k < length xs) where
  -- a triangle of another group changes no count
  counts_apart : (place n : ℕ) → get_or xs k 0 < place →
      counts_from place n (take (k + 1) xs) ≡ counts_from place n (take k xs)
  counts_apart place zero below = refl
  counts_apart place (suc n) below =
      ap₂ (λ c cs. c ∷ cs)
      (count_by_more_no (λ p. p == place) xs k 0 within (ne_eqb (get_or xs k 0) place (λ e. omega (arith, e))))
      (counts_apart (place + 1) n (omega arith))

  -- a triangle raises the count of its group by one
  pub one_more : (place n i x : ℕ) → i < n → get_or xs k 0 ≡ place + i →
      x ≡ get_or (counts_from place n (take k xs)) i x →
      set (counts_from place n (take k xs)) i (x + 1) ≡ counts_from place n (take (k + 1) xs)
  one_more place zero i x lt here e = absurd (omega arith)
  one_more place (suc n) zero x lt here e =
      ap₂ (λ c cs. c ∷ cs)
      (ap (λ c. c + 1) e
      ∙ sym (count_by_more_yes (λ p. p == place) xs k 0 within (eq-eqb (get_or xs k 0) place (omega (arith, here)))))
      (sym (counts_apart (place + 1) n (omega (arith, here))))
  one_more place (suc n) (suc i) x lt here e =
      ap₂ (λ c cs. c ∷ cs)
      (sym
      (count_by_more_no (λ p. p == place) xs k 0 within
      (ne_eqb (get_or xs k 0) place (λ same. omega (arith, here, same)))))
      (one_more (place + 1) n i x (omega arith) (omega (arith, here)) e)

-- names beside their counts are the groups
pub groups_counted : (place : ℕ) (names : List (List ℕ)) (xs : List ℕ) →
    side_by_side names (counts_from place (length names) xs) ≡ groups_from place names xs
groups_counted place [] xs = refl
groups_counted place (name ∷ names) xs =
    ap (λ gs. record { name = name; count = count_in xs place } ∷ gs) (groups_counted (place + 1) names xs)
