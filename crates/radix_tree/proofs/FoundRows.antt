use Rattle.std.proofs.Common.{◌≡◌, ℕ, suc, zero, refl, sym, ap, ◌∙◌, arith, inl, inr, ◌⊎◌, List, [], ◌∷◌, Some}
use Rattle.std.specs.Prelude.{◌==◌, Contains, find}
use Rattle.std.proofs.lemmas.Bool.{cases_eq, eq-eqb, ne_eqb, cond-false, cond-true}
use Rattle.radix_tree.specs.Shape.{Row}

-- rows with the same parts are one
pub same_row : (i a b s j c d u : ℕ) → i ≡ j → a ≡ c → b ≡ d → s ≡ u →
    ◌≡◌ {A = Row} (record { number = i; first = a; last = b; split = s })
    (record { number = j; first = c; last = d; split = u })
same_row i a b s j c d u e f g h = cc

-- a list has its first row, and those that follow
pub contains_head : (y : Row) (ys : List Row) → Contains (y ∷ ys) y
contains_head y ys = (0, omega arith, refl)

-- what a list contains is its head or in its tail
pub contains_tail : (y x : Row) (ys : List Row) → Contains (y ∷ ys) x → (y ≡ x) ⊎ Contains ys x
contains_tail y x ys (zero, lt, e) = inl e
contains_tail y x ys (suc k, lt, e) = inr (k, omega arith, e)

-- and what its tail contains it does
pub contains_more : (y x : Row) (ys : List Row) → Contains ys x → Contains (y ∷ ys) x
contains_more y x ys (k, lt, e) = (suc k, omega arith, e)

-- the only row of its number is the one that is found
pub find_only : (xs : List Row) (k : ℕ) (x : Row) → Contains xs x → x.number ≡ k →
    ((r : Row) → Contains xs r → r.number ≡ k → r ≡ x) → find (λ r. r.number == k) xs ≡ Some x
find_only [] k x (j, lt, e) number only = absurd (omega arith)
find_only (y ∷ ys) k x c number only = elim (cases_eq y.number k) [
  | inl e ↦ cond-true (y.number == k) (Some y) (find (λ r. r.number == k) ys) (eq-eqb _ _ e)
      ∙ ap Some (only y (contains_head y ys) e)
  | inr ne ↦ cond-false (y.number == k) (Some y) (find (λ r. r.number == k) ys) (ne_eqb _ _ ne) ∙
      find_only ys k x
      (elim (contains_tail y x ys c) [ inl e ↦ absurd (ne (ap (λ r. r.number) e ∙ number)) | inr h ↦ h ]) number
      (λ r h e. only r (contains_more y r ys h) e)
]

-- a row that is found stands in the list, under that number
pub found_in : (xs : List Row) (k : ℕ) (r : Row) → find (λ r. r.number == k) xs ≡ Some r →
    Contains xs r × (r.number ≡ k)
found_in [] k r h = cc
found_in (y ∷ ys) k r h = elim (cases_eq y.number k) [
  | inl e ↦
      let at : find (λ r. r.number == k) (y ∷ ys) ≡ Some y = cond-true (y.number == k) (Some y)
      (find (λ r. r.number == k) ys) (eq-eqb _ _ e) in
      let same : y ≡ r = cc in
      ((0, omega arith, same), ap (λ z. z.number) (sym same) ∙ e)
  | inr ne ↦
      let past : find (λ r. r.number == k) (y ∷ ys) ≡ find (λ r. r.number == k) ys =
      cond-false (y.number == k) (Some y) (find (λ r. r.number == k) ys) (ne_eqb _ _ ne) in
      let p = found_in ys k r (sym past ∙ h) in
      (contains_more y r ys p.0, p.1)
]
