-- How many elements of a list pass a test.
use Rattle.std.proofs.Common.{◌≡◌, ◌+◌, refl, sym, ap, ◌∙◌, arith, List, [], ◌∷◌, ◌++◌, Bool, false, cond}
use Rattle.std.specs.Prelude.{All, count_by, filter}
use Rattle.std.proofs.lemmas.Bool.{cond-false}
use Rattle.std.proofs.lemmas.List.Elements.{All-head, All-tail}
use Rattle.std.proofs.lemmas.List.Sums.{sum_by-cons, sum_by-append}

module _ {X : Type 0} (p : X → Bool) where
  -- the first element counts if it passes
  pub count_by-cons : (x : X) (xs : List X) → count_by p (x ∷ xs) ≡ cond (p x) 1 0 + count_by p xs
  count_by-cons x xs = sum_by-cons (λ y. cond (p y) 1 0) x xs

  -- two lists together
  pub count_by-append : (xs ys : List X) → count_by p (xs ++ ys) ≡ count_by p xs + count_by p ys
  count_by-append xs ys = sum_by-append (λ y. cond (p y) 1 0) xs ys

  -- where none passes
  pub count_by-none : (xs : List X) → All (λ x. p x ≡ false) xs → count_by p xs ≡ 0
  count_by-none [] h = refl
  count_by-none (x ∷ xs) h =
      count_by-cons x xs
      ∙ (ap (λ n. n + count_by p xs) (cond-false (p x) 1 0 (All-head (λ y. p y ≡ false) x xs h))
      ∙ (let zero-plus : 0 + count_by p xs ≡ count_by p xs = omega arith in zero-plus)
      ∙ count_by-none xs (All-tail (λ y. p y ≡ false) x xs h))

  -- where none passes, none is kept
  pub filter-none : (xs : List X) → All (λ x. p x ≡ false) xs → filter p xs ≡ []
  filter-none [] h = refl
  filter-none (x ∷ xs) h =
      cond-false (p x) (x ∷ filter p xs) (filter p xs) (All-head (λ y. p y ≡ false) x xs h)
      ∙ filter-none xs (All-tail (λ y. p y ≡ false) x xs h)

  -- two tests that agree on a list count alike
  pub count_by-agree : (q : X → Bool) (xs : List X) → All (λ x. p x ≡ q x) xs → count_by p xs ≡ count_by q xs
  count_by-agree q [] h = refl
  count_by-agree q (x ∷ xs) h =
      count_by-cons x xs
      ∙ (ap (λ b. cond b 1 0 + count_by p xs) (All-head (λ y. p y ≡ q y) x xs h)
      ∙ (ap (λ n. cond (q x) 1 0 + n) (count_by-agree q xs (All-tail (λ y. p y ≡ q y) x xs h))
      ∙ sym (sum_by-cons (λ y. cond (q y) 1 0) x xs)))
