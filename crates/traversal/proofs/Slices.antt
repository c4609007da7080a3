-- Ranges of a list: one element, none, and a range in two parts.
use Rattle.std.proofs.Common.{◌≡◌, ℕ, ◌+◌, ◌-◌, ◌<◌, ◌≤◌, sym, ap, ◌∙◌, arith, List, [], ◌∷◌, ◌++◌, length, take, drop, get_or}
use Rattle.std.specs.Prelude.{slice_range}
use Rattle.std.proofs.Math.Seq.{drop-cons}
use Rattle.std.proofs.lemmas.List.{take-append-drop, drop-take, take-take, drop-drop, take_all}

-- a range of one place
pub slice_range-one : {X : Type 0} (xs : List X) (p : ℕ) (d : X) → p < length xs →
    slice_range xs p (p + 1) ≡ get_or xs p d ∷ []
slice_range-one xs p d lt =
    let one : p + 1 - p ≡ 1 = omega arith in
    ap (λ n. take n (drop p xs)) one ∙ ap (take 1) (drop-cons xs p d lt)

-- a range that ends where it begins
pub slice_range-none : {X : Type 0} (xs : List X) (a b : ℕ) → b ≤ a → slice_range xs a b ≡ []
slice_range-none xs a b le = let none : b - a ≡ 0 = omega arith in ap (λ n. take n (drop a xs)) none

-- a range in two parts
pub slice_range-parted : {X : Type 0} (xs : List X) (a s b : ℕ) → a ≤ s → s ≤ b →
    slice_range xs a b ≡ slice_range xs a s ++ slice_range xs s b
slice_range-parted xs a s b low high =
    let m : ℕ = s - a in
    let n : ℕ = b - s in
    let whole : b - a ≡ m + n = omega arith in
    let middle : a + m ≡ s = omega arith in
    ap (λ k. take k (drop a xs)) whole
    ∙ (sym (take-append-drop m (take (m + n) (drop a xs)))
    ∙ (ap (λ ys. ys ++ drop m (take (m + n) (drop a xs))) (take-take m (m + n) (drop a xs) (omega arith))
    ∙ ap (λ ys. take m (drop a xs) ++ ys)
    (drop-take m n (drop a xs) ∙ ap (take n) (drop-drop m a xs ∙ ap (λ k. drop k xs) middle))))

-- the range of all places
pub slice_range-whole : {X : Type 0} (xs : List X) (n : ℕ) → length xs ≤ n → slice_range xs 0 n ≡ xs
slice_range-whole xs n le = let all : n - 0 ≡ n = omega arith in ap (λ k. take k xs) all ∙ take_all n xs le

-- a list that begins is its first element and the rest
pub first_and_rest : {X : Type 0} (xs : List X) (d : X) → 0 < length xs →
    get_or xs 0 d ∷ slice_range xs (0 + 1) (length xs) ≡ xs
first_and_rest xs d lt =
    ap (λ ys. ys ++ slice_range xs (0 + 1) (length xs)) (sym (slice_range-one xs 0 d lt))
    ∙ (sym (slice_range-parted xs 0 (0 + 1) (length xs) (omega arith) (omega arith))
    ∙ slice_range-whole xs (length xs) (omega arith))
