-- Rising lists of numbers: two of them that have each number equally often are one list.
use Rattle.std.proofs.Common.{◌≡◌, ℕ, suc, ◌+◌, ◌<◌, ◌≤◌, refl, ap, ◌∙◌, arith, inl, inr, List, [], ◌∷◌, false, cond}
use Rattle.std.specs.Prelude.{◌==◌, All, count_by}
use Rattle.std.specs.List.Sorted.{IsNonDecreasing, IsPermutation}
use Rattle.std.proofs.lemmas.Bool.{cases_order, cond-true, eq-eqb, ne_eqb}
use Rattle.std.proofs.lemmas.List.Elements.{All-weaker}
use Rattle.std.proofs.lemmas.List.Sorted.{sum_by-IsPermutation}
use Rattle.traversal.proofs.Counting.{count_by-cons, count_by-none}

-- how often a number stands in a list
abbrev pub times : ℕ → List ℕ → ℕ
times n xs = count_by (λ x. x == n) xs

-- the rest of a rising list rises
pub rising_tail : (x : ℕ) (xs : List ℕ) → IsNonDecreasing (x ∷ xs) → IsNonDecreasing xs
rising_tail x xs h = λ i j d. λ le lt. h (suc i) (suc j) d (omega arith) (omega arith)

-- and has nothing below its first number
pub rising_head : (x : ℕ) (xs : List ℕ) → IsNonDecreasing (x ∷ xs) → All (λ y. x ≤ y) (x ∷ xs)
rising_head x xs h = λ k d lt. h 0 k d (omega arith) lt

-- a number below all of a list is not in it
pub times_below : (n x : ℕ) (xs : List ℕ) → n < x → All (λ y. x ≤ y) xs → times n xs ≡ 0
times_below n x xs lt h =
    count_by-none (λ y. y == n) xs
    (All-weaker (λ y. x ≤ y) (λ y. (y == n) ≡ false) (λ y le. ne_eqb y n (λ e. omega arith)) xs h)

-- the first number is in the list
pub times_first : (x : ℕ) (xs : List ℕ) → times x (x ∷ xs) ≡ 1 + times x xs
times_first x xs = count_by-cons (λ y. y == x) x xs
    ∙ ap (λ n. n + times x xs) (cond-true (x == x) 1 0 (eq-eqb x x refl))

-- two rising lists with equal counts are equal
pub one_rising : (xs ys : List ℕ) → IsNonDecreasing xs → IsNonDecreasing ys → ((n : ℕ) → times n xs ≡ times n ys) →
    xs ≡ ys
one_rising [] [] h k same = refl
one_rising [] (y ∷ ys) h k same = absurd (omega (arith, same y, times_first y ys))
one_rising (x ∷ xs) [] h k same = absurd (omega (arith, same x, times_first x xs))
one_rising (x ∷ xs) (y ∷ ys) h k same = elim (cases_order x y) [
  | inl e ↦
      let rest : xs ≡ ys = one_rising xs ys (rising_tail x xs h) (rising_tail y ys k) (λ n.
      omega (
        arith,
        same n,
        count_by-cons (λ z. z == n) x xs,
        count_by-cons (λ z. z == n) y ys,
        ap {B = ℕ} (λ z. cond (z == n) 1 0) e,
      )) in
      ap (λ z. z ∷ xs) e ∙ ap (λ zs. y ∷ zs) rest
  | inr (inl lt) ↦ absurd (omega (arith, same x, times_first x xs, times_below x y (y ∷ ys) lt (rising_head y ys k)))
  | inr (inr lt) ↦ absurd (omega (arith, same y, times_first y ys, times_below y x (x ∷ xs) lt (rising_head x xs h)))
]

-- an order of a list has its counts
pub times_permuted : (n : ℕ) (xs ys : List ℕ) → IsPermutation xs ys → times n ys ≡ times n xs
times_permuted n xs ys h = sum_by-IsPermutation (λ x. cond (x == n) 1 0) xs ys h
