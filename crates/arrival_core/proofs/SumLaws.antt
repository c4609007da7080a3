use Rattle.std.proofs.Common.{◌≡◌, ◌≢◌, ℕ, suc, zero, ◌+◌, ◌*◌, ◌<◌, ◌≤◌, refl, sym, ◌∙◌, arith, subst, inl, inr}
use Rattle.std.proofs.lemmas.Bool.{cases_eq}
use Rattle.arrival_core.specs.Sums.{sum_below}

-- terms that are the same have the same sum
pub sum_same : (n : ℕ) (f g : ℕ → ℕ) → ((i : ℕ) → i < n → f i ≡ g i) → sum_below n f ≡ sum_below n g
unfolding sum_below
sum_same zero f g e = refl
sum_same (suc n) f g e =
    let below = sum_same n f g (λ i h. e i (omega arith)) in
    let here = e n (omega arith) in
    omega (arith, below, here)

-- where one term changes, the sum changes by the difference
pub sum_change : (n k : ℕ) (f g : ℕ → ℕ) → k < n → ((i : ℕ) → i < n → i ≢ k → f i ≡ g i) →
    sum_below n f + g k ≡ sum_below n g + f k
unfolding sum_below
sum_change zero k f g lt e = absurd (omega arith)
sum_change (suc n) k f g lt e = elim (cases_eq k n) [
  | inl h ↦
      let below : sum_below n f ≡ sum_below n g = sum_same n f g (λ i l. e i (omega arith) (λ z. omega arith)) in
      subst (λ z. sum_below n f + f n + g z ≡ sum_below n g + g n + f z) (sym h) (omega (arith, below))
  | inr h ↦
      let below = sum_change n k f g (omega arith) (λ i l. e i (omega arith)) in
      let here : f n ≡ g n = e n (omega arith) (λ z. h (sym z)) in
      omega (arith, below, here)
]

-- a term is at most the sum
pub term_le_sum : (n k : ℕ) (f : ℕ → ℕ) → k < n → f k ≤ sum_below n f
unfolding sum_below
term_le_sum zero k f lt = absurd (omega arith)
term_le_sum (suc n) k f lt = elim (cases_eq k n) [
  | inl h ↦ subst (λ z. f z ≤ sum_below n f + f n) (sym h) (omega arith)
  | inr h ↦ omega (arith, term_le_sum n k f (omega arith))
]

-- two terms are at most the sum
pub terms_le_sum : (n j k : ℕ) (f : ℕ → ℕ) → j < n → k < n → j ≢ k → f j + f k ≤ sum_below n f
unfolding sum_below
terms_le_sum zero j k f lj lk ne = absurd (omega arith)
terms_le_sum (suc n) j k f lj lk ne = elim (cases_eq k n) [
  | inl h ↦ subst (λ z. f j + f z ≤ sum_below n f + f n) (sym h)
      (omega (arith, term_le_sum n j f (omega (arith, λ (z : j ≡ n). ne (z ∙ sym h)))))
  | inr h ↦ elim (cases_eq j n) [
    | inl i ↦ subst (λ z. f z + f k ≤ sum_below n f + f n) (sym i) (omega (arith, term_le_sum n k f (omega arith)))
    | inr i ↦ omega (arith, terms_le_sum n j k f (omega arith) (omega arith) ne)
  ]
]

-- sums of sums
pub sum_plus : (n : ℕ) (f g : ℕ → ℕ) → sum_below n (λ i. f i + g i) ≡ sum_below n f + sum_below n g
unfolding sum_below
sum_plus zero f g = refl
sum_plus (suc n) f g = omega (arith, sum_plus n f g)

-- lesser terms have a lesser sum
pub sum_le : (n : ℕ) (f g : ℕ → ℕ) → ((i : ℕ) → i < n → f i ≤ g i) → sum_below n f ≤ sum_below n g
unfolding sum_below
sum_le zero f g e = omega arith
sum_le (suc n) f g e =
    let below = sum_le n f g (λ i h. e i (omega arith)) in
    let here = e n (omega arith) in
    omega (arith, below, here)

-- a sum of nothing
pub sum_zero : (n : ℕ) (f : ℕ → ℕ) → ((i : ℕ) → i < n → f i ≡ 0) → sum_below n f ≡ 0
unfolding sum_below
sum_zero zero f e = refl
sum_zero (suc n) f e =
    let below = sum_zero n f (λ i h. e i (omega arith)) in
    let here = e n (omega arith) in
    omega (arith, below, here)

-- a sum of one number
pub sum_of_same : (n c : ℕ) → sum_below n (λ i. c) ≡ n * c
unfolding sum_below
sum_of_same zero c = omega arith
sum_of_same (suc n) c = let below = sum_of_same n c in omega (arith, below)

-- a sum of doubles
pub sum_twice : (n : ℕ) (g : ℕ → ℕ) → sum_below n (λ t. 2 * g t) ≡ 2 * sum_below n g
unfolding sum_below
sum_twice zero g = omega arith
sum_twice (suc n) g = let below = sum_twice n g in omega (arith, below)
