-- What a write to a list of climbers or of claim bits makes of the state that the lists show.
use Rattle.std.proofs.Common.{◌≡◌, ◌≢◌, ℕ, ◌<◌, sym, ap, ◌∙◌, arith, inl, inr, subst, List, length, get_or, set, Bool}
use Rattle.std.proofs.lemmas.List.{get_or-set_same, get_or-set_other, get_or_default}
use Rattle.std.proofs.lemmas.Bool.{cases_eq}
use Rattle.std.proofs.Math.Path.{fun_ext}
use Rattle.arrival_core.specs.declared.forks.Climber.{Climber}
use Rattle.arrival_core.specs.States.{Worker}
use Rattle.arrival_core.specs.Events.{put}
use Rattle.arrival_core.specs.Forks.{HasPart, climber_at, worker_of, claimed_at}
use Rattle.arrival_core.proofs.PutLaws.{put-here, put-other}

-- a climber that was read
pub climber_is : (climbers : List Climber) (k : ℕ) (x : Climber) → k < length climbers → x ≡ get_or climbers k x →
    x ≡ climber_at climbers k
unfolding climber_at
climber_is climbers k x lt e = e ∙ get_or_default climbers k x _ lt

-- a claim bit that was read
pub claimed_is : (claimed : List Bool) (j : ℕ) (x : Bool) → j < length claimed → x ≡ get_or claimed j x →
    x ≡ claimed_at claimed j
unfolding claimed_at
claimed_is claimed j x lt e = e ∙ get_or_default claimed j x _ lt

-- a climber that was written
climber_here : (climbers : List Climber) (k : ℕ) (x : Climber) → k < length climbers →
    climber_at (set climbers k x) k ≡ x
unfolding climber_at
climber_here climbers k x lt = get_or-set_same climbers k x _ lt

-- and the others
climber_apart : (climbers : List Climber) (k i : ℕ) (x : Climber) → k ≢ i →
    climber_at (set climbers k x) i ≡ climber_at climbers i
unfolding climber_at
climber_apart climbers k i x ne = get_or-set_other climbers k i x _ (λ z. ne (sym z))

-- a claim bit that was written
claimed_here : (claimed : List Bool) (k : ℕ) (x : Bool) → k < length claimed → claimed_at (set claimed k x) k ≡ x
unfolding claimed_at
claimed_here claimed k x lt = get_or-set_same claimed k x _ lt

-- and the others
claimed_apart : (claimed : List Bool) (k i : ℕ) (x : Bool) → k ≢ i →
    claimed_at (set claimed k x) i ≡ claimed_at claimed i
unfolding claimed_at
claimed_apart claimed k i x ne = get_or-set_other claimed k i x _ (λ z. ne (sym z))

-- a list with another climber that has a part, where the others have
pub parts_set : (n : ℕ) (climbers : List Climber) (k : ℕ) (x : Climber) → k < length climbers → HasPart n x → (j : ℕ) →
    HasPart n (climber_at climbers j) → HasPart n (climber_at (set climbers k x) j)
parts_set n climbers k x lt has j old = elim (cases_eq k j) [
  | inl e ↦ subst (λ j. HasPart n (climber_at (set climbers k x) j)) e
      (subst (HasPart n) (sym (climber_here climbers k x lt)) has)
  | inr ne ↦ subst (HasPart n) (sym (climber_apart climbers k j x ne)) old
]

-- the same, where its part is as it was
pub parts_kept : (n : ℕ) (climbers : List Climber) (k : ℕ) (x : Climber) → k < length climbers →
    x.from ≡ (climber_at climbers k).from → x.to ≡ (climber_at climbers k).to → (j : ℕ) →
    HasPart n (climber_at climbers j) → HasPart n (climber_at (set climbers k x) j)
parts_kept n climbers k x lt f t j old = elim (cases_eq k j) [
  | inl e ↦ subst (λ j. HasPart n (climber_at (set climbers k x) j)) e
      (subst (HasPart n) (sym (climber_here climbers k x lt))
      (let was : HasPart n (climber_at climbers k) = subst (λ j. HasPart n (climber_at climbers j)) (sym e) old in
      record { order = omega (arith, f, t, was.order); within = omega (arith, t, was.within) }))
  | inr ne ↦ subst (HasPart n) (sym (climber_apart climbers k j x ne)) old
]

-- a list with another element
pub climbers_set : (climbers : List Climber) (k : ℕ) (x : Climber) (i : ℕ) → k < length climbers →
    climber_at (set climbers k x) i ≡ put (climber_at climbers) k x i
climbers_set climbers k x i lt = elim (cases_eq k i) [
  | inl e ↦ subst (λ i. climber_at (set climbers k x) i ≡ put (climber_at climbers) k x i) e
      (climber_here climbers k x lt ∙ sym (put-here (climber_at climbers) k x))
  | inr ne ↦ climber_apart climbers k i x ne ∙ sym (put-other (climber_at climbers) k x i ne)
]

-- all claim bits after a write
pub claimed_set : (claimed : List Bool) (k : ℕ) (x : Bool) (i : ℕ) → k < length claimed →
    claimed_at (set claimed k x) i ≡ put (claimed_at claimed) k x i
claimed_set claimed k x i lt = elim (cases_eq k i) [
  | inl e ↦ subst (λ i. claimed_at (set claimed k x) i ≡ put (claimed_at claimed) k x i) e
      (claimed_here claimed k x lt ∙ sym (put-here (claimed_at claimed) k x))
  | inr ne ↦ claimed_apart claimed k i x ne ∙ sym (put-other (claimed_at claimed) k x i ne)
]

-- the workers that a list of climbers with another one shows
pub workers_set : (live : List ℕ) (climbers : List Climber) (k : ℕ) (x : Climber) → k < length climbers →
    ◌≡◌ {A = ℕ → Worker} (λ i. worker_of live (climber_at (set climbers k x) i))
    (put (λ i. worker_of live (climber_at climbers i)) k (worker_of live x))
workers_set live climbers k x lt = fun_ext (λ i. ap (worker_of live) (climbers_set climbers k x i lt)
    ∙ apart i)
  where
    apart : (i : ℕ) → worker_of live (put (climber_at climbers) k x i)
        ≡ put (λ i. worker_of live (climber_at climbers i)) k (worker_of live x) i
    apart i = elim (cases_eq k i) [
      | inl z ↦ subst (λ i. worker_of live (put (climber_at climbers) k x i)
          ≡ put (λ i. worker_of live (climber_at climbers i)) k (worker_of live x) i) z
          (ap (worker_of live) (put-here (climber_at climbers) k x)
          ∙ sym (put-here (λ i. worker_of live (climber_at climbers i)) k (worker_of live x)))
      | inr ne ↦ ap (worker_of live) (put-other (climber_at climbers) k x i ne)
          ∙ sym (put-other (λ i. worker_of live (climber_at climbers i)) k (worker_of live x) i ne)
    ]
