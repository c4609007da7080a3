-- What each phase counts for, at one side of a node.
use Rattle.std.proofs.Common.{◌≡◌, ◌≢◌, ℕ, suc, zero, ◌+◌, ◌*◌, ◌<◌, ◌≤◌, Bool, true, refl, sym, ap, arith, subst, inl, inr, List, [], ◌∷◌}
use Rattle.std.specs.Prelude.{◌==◌, not}
use Rattle.std.proofs.lemmas.Bool.{cases_eq, cases_Bool}
use Rattle.arrival_core.specs.declared.packets.Packet.{Packet}
use Rattle.arrival_core.specs.declared.packets.Side.{Side}
use Rattle.arrival_core.specs.declared.packets.Side.TheVariants.{Left, Right}
use Rattle.arrival_core.specs.declared.packets.Load.{Load}
use Rattle.arrival_core.specs.declared.packets.Phase.{Phase}
use Rattle.arrival_core.specs.declared.packets.Phase.TheVariants.{Looking, Carry, Opened, Second, Collecting, Ended}
use Rattle.arrival_core.specs.declared.packets.Tally.{Tally}
use Rattle.arrival_core.specs.Sums.{bit, sum_below}
use Rattle.arrival_core.specs.Frames.{Frame}
use Rattle.arrival_core.specs.States.{Worker, State}
use Rattle.arrival_core.specs.Events.{same, put, resume}
use Rattle.arrival_core.specs.Counts.{at, has, times, carries, opened_at, second_at, collecting_at, turn, unclaimed}
use Rattle.arrival_core.proofs.SumLaws.{sum_same, sum_plus}
use Rattle.arrival_core.proofs.PutLaws.{bit-true, bit-false, eq-true, eq-false, put-here, put-other, same-node, same-side}

-- how a phase counts
pub record Counts (p : Phase) (t : ℕ) (e : Side) (a b c d : ℕ) : Type 0 where
  pub carries_is : carries p t e ≡ a
  pub opened_is : opened_at p t e ≡ b
  pub second_is : second_at p t ≡ c
  pub collecting_is : collecting_at p t ≡ d

-- equal phases count alike
counts_are : (p q : Phase) (t : ℕ) (e : Side) (a b c d : ℕ) → p ≡ q → Counts q t e a b c d → Counts p t e a b c d
counts_are p q t e a b c d h x = subst (λ z. Counts z t e a b c d) (sym h) x

-- a worker that looks
pub when_looking : (p : Phase) (t : ℕ) (e : Side) → p ≡ Looking → Counts p t e 0 0 0 0
unfolding carries opened_at second_at collecting_at
when_looking p t e h = counts_are p Looking t e 0 0 0 0 h
    (record { carries_is = refl; opened_is = refl; second_is = refl; collecting_is = refl })

-- one that has ended
pub when_ended : (p : Phase) (t : ℕ) (e : Side) → p ≡ Ended → Counts p t e 0 0 0 0
unfolding carries opened_at second_at collecting_at
when_ended p t e h = counts_are p Ended t e 0 0 0 0 h
    (record { carries_is = refl; opened_is = refl; second_is = refl; collecting_is = refl })

-- one that carries
pub when_carry : (p : Phase) (l : Load) (t : ℕ) (e : Side) → p ≡ Carry l → Counts p t e (at l.split l.side t e) 0 0 0
unfolding carries opened_at second_at collecting_at
when_carry p l t e h = counts_are p (Carry l) t e (at l.split l.side t e) 0 0 0 h
    (record { carries_is = refl; opened_is = refl; second_is = refl; collecting_is = refl })

-- one behind an opening
pub when_opened : (p : Phase) (l : Load) (t : ℕ) (e : Side) → p ≡ Opened l → Counts p t e 0 (at l.split l.side t e) 0 0
unfolding carries opened_at second_at collecting_at
when_opened p l t e h = counts_are p (Opened l) t e 0 (at l.split l.side t e) 0 0 h
    (record { carries_is = refl; opened_is = refl; second_is = refl; collecting_is = refl })

-- one that came second
pub when_second : (p : Phase) (l : Load) (t : ℕ) (e : Side) → p ≡ Second l → Counts p t e 0 0 (bit (l.split == t)) 0
unfolding carries opened_at second_at collecting_at
when_second p l t e h = counts_are p (Second l) t e 0 0 (bit (l.split == t)) 0 h
    (record { carries_is = refl; opened_is = refl; second_is = refl; collecting_is = refl })

-- one that collects
pub when_collecting : (p : Phase) (l : Load) (found : Packet) (t : ℕ) (e : Side) → p ≡ Collecting l found →
    Counts p t e 0 0 0 (bit (l.split == t))
unfolding carries opened_at second_at collecting_at
when_collecting p l found t e h = counts_are p (Collecting l found) t e 0 0 0 (bit (l.split == t)) h
    (record { carries_is = refl; opened_is = refl; second_is = refl; collecting_is = refl })

-- what a worker has, by what its phase counts
pub has_is : (f : Frame) (w : Worker) (t : ℕ) (e : Side) (a b c d : ℕ) → Counts w.phase t e a b c d →
    has f t e w ≡ times f w.pending t e + a + b
unfolding has
has_is f w t e a b c d x = omega (arith, x.carries_is, x.opened_is)

-- whose turn it is, by these counts
pub turn_is : (p : Phase) (c : Bool) (t : ℕ) (e : Side) → turn p c t e ≡ opened_at p t e + collecting_at p t * bit c
unfolding turn
turn_is p c t e = refl

-- a worker that carries nothing has what is pending
pub has_resumed : (f : Frame) (next : ℕ) (ps : List ℕ) (tally : Tally) (t : ℕ) (e : Side) →
    has f t e (resume f next ps tally) ≡ times f ps t e
unfolding has times carries opened_at
has_resumed f next [] tally t e = elim (cases_Bool (next == f.batches)) [ inl h ↦ rw h refl | inr h ↦ rw h refl ]
has_resumed f next (p ∷ ps) tally t e = omega arith

-- a worker that carries nothing is behind no opening and no second arrival
pub resumed_counts : (f : Frame) (next : ℕ) (ps : List ℕ) (tally : Tally) (t : ℕ) (e : Side) →
    (opened_at (resume f next ps tally).phase t e ≡ 0) × (second_at (resume f next ps tally).phase t ≡ 0)
    × (collecting_at (resume f next ps tally).phase t ≡ 0)
unfolding second_at collecting_at opened_at
resumed_counts f next [] tally t e = elim (cases_Bool (next == f.batches)) [
  | inl h ↦ rw h (refl, refl, refl)
  | inr h ↦ rw h (refl, refl, refl)
]
resumed_counts f next (p ∷ ps) tally t e = (refl, refl, refl)

-- its next batch
pub resumed_next : (f : Frame) (next : ℕ) (ps : List ℕ) (tally : Tally) → (resume f next ps tally).next ≡ next
resumed_next f next [] tally = refl
resumed_next f next (p ∷ ps) tally = refl

-- its tally
pub resumed_tally : (f : Frame) (next : ℕ) (ps : List ℕ) (tally : Tally) → (resume f next ps tally).tally ≡ tally
resumed_tally f next [] tally = refl
resumed_tally f next (p ∷ ps) tally = refl

-- the two sides of a node together
pub at_sides : (s : ℕ) (d : Side) (t : ℕ) → at s d t Left + at s d t Right ≡ bit (s == t)
unfolding at same
at_sides s Left t = elim (cases_Bool (s == t)) [ inl h ↦ rw h refl | inr h ↦ rw h refl ]
at_sides s Right t = elim (cases_Bool (s == t)) [ inl h ↦ rw h refl | inr h ↦ rw h refl ]

-- a side is one of its node
pub at_node : (s : ℕ) (d : Side) (t : ℕ) (e : Side) → at s d t e ≤ bit (s == t)
at_node s d t Left = omega (arith, at_sides s d t)
at_node s d t Right = omega (arith, at_sides s d t)

-- what holds of a side holds wherever that side is meant
pub at_side : (P : ℕ → Side → Type 0) (s : ℕ) (d : Side) (t : ℕ) (e : Side) → same s d t e ≡ true → P s d → P t e
at_side P s d t e h x = subst (λ z. P z e) (same-node s d t e h) (subst (P s) (same-side s d t e h) x)

-- one number below a count is that number, and none where it is not below
sum-none : (n k : ℕ) → n ≤ k → sum_below n (λ i. bit (k == i)) ≡ 0
unfolding sum_below
sum-none zero k le = refl
sum-none (suc n) k le =
    let below = sum-none n k (omega arith) in
    let here = bit-false (eq-false k n (λ z. omega arith)) in
    omega (arith, below, here)

-- a number below a count is found once
sum-one : (n k : ℕ) → k < n → sum_below n (λ i. bit (k == i)) ≡ 1
unfolding sum_below
sum-one zero k lt = absurd (omega arith)
sum-one (suc n) k lt = elim (cases_eq k n) [
  | inl h ↦
      let below = sum-none n k (omega arith) in
      let here = bit-true (eq-true k n h) in
      omega (arith, below, here)
  | inr h ↦
      let below = sum-one n k (omega arith) in
      let here = bit-false (eq-false k n h) in
      omega (arith, below, here)
]

-- a sum in which one term is greater by one
pub sum_more : (n k : ℕ) (g h : ℕ → ℕ) → k < n → ((i : ℕ) → i < n → g i ≡ h i + bit (k == i)) →
    sum_below n g ≡ sum_below n h + 1
sum_more n k g h lt e =
    let x = sum_same n g (λ i. h i + bit (k == i)) e in
    let y = sum_plus n h (λ i. bit (k == i)) in
    let z = sum-one n k lt in
    omega (arith, x, y, z)

-- a fact of every worker, where one has changed
pub each_worker : (f : Frame) (s n : State) (k : ℕ) (w : Worker) (P : ℕ → Worker → Type 0) →
    n.worker ≡ put s.worker k w → P k w → ((j : ℕ) → j < f.workers → k ≢ j → P j (s.worker j)) →
    (j : ℕ) → j < f.workers → P j (n.worker j)
each_worker f s n k w P e here others j lj = subst (λ g. P j (g j)) (sym e) (elim (cases_eq k j) [
  | inl h ↦ subst (λ z. P z (put s.worker k w z)) h (subst (P k) (sym (put-here s.worker k w)) here)
  | inr h ↦ subst (P j) (sym (put-other s.worker k w j h)) (others j lj h)
])

-- where no batch is claimed anew, the same children are unclaimed
pub unclaimed-same : (f : Frame) (s n : State) (t : ℕ) (e : Side) → n.claimed ≡ s.claimed →
    unclaimed f n t e ≡ unclaimed f s t e
unfolding unclaimed
unclaimed-same f s n t e h = ap (λ c. sum_below f.batches (λ j. bit (not (c j)) * times f (f.batch j) t e)) h
