-- What the counts of a lawful state say of one worker and of one side of a node.
use Rattle.std.proofs.Common.{◌≡◌, ◌≢◌, ℕ, ◌+◌, ◌*◌, ◌<◌, ◌≤◌, Bool, true, false, refl, sym, ap, ◌∙◌, arith, inl, inr}
use Rattle.std.specs.Prelude.{◌&&◌}
use Rattle.std.proofs.lemmas.Bool.{cases_Bool, and_parts}
use Rattle.arrival_core.specs.declared.packets.Side.{Side}
use Rattle.arrival_core.specs.declared.packets.Side.TheVariants.{Left, Right}
use Rattle.arrival_core.specs.Sums.{bit, sum_below}
use Rattle.arrival_core.specs.Frames.{Frame, Below, live_at}
use Rattle.arrival_core.specs.Frames.Below.{leaf, inner}
use Rattle.arrival_core.specs.States.{Worker, State}
use Rattle.arrival_core.specs.Events.{put}
use Rattle.arrival_core.specs.Lawful.{IsLawful, IsLawfulSide}
use Rattle.arrival_core.specs.Counts.{over, has, times, carries, opened_at, second_at, collecting_at, ready, ready_below, count_opened, count_met, count_collecting}
use Rattle.arrival_core.proofs.SumLaws.{sum_change, term_le_sum, terms_le_sum, sum_plus}
use Rattle.arrival_core.proofs.PutLaws.{bit_le, bit-one, bit-zero, bit-true, put-here, put-other}

-- where one worker changes, a sum over all changes by the difference
pub over_put : (f : Frame) (s n : State) (k : ℕ) (w : Worker) (count : Worker → ℕ) → k < f.workers →
    n.worker ≡ put s.worker k w → over f n count + count (s.worker k) ≡ over f s count + count w
unfolding over
over_put f s n k w count lt e =
    let change : sum_below f.workers (λ i. count (put s.worker k w i)) + count (s.worker k)
    ≡ sum_below f.workers (λ i. count (s.worker i)) + count (put s.worker k w k)
    = sum_change f.workers k (λ i. count (put s.worker k w i)) (λ i. count (s.worker i)) lt
    (λ i l ne. ap count (put-other s.worker k w i (λ z. ne (sym z)))) in
    let here : count (put s.worker k w k) ≡ count w = ap count (put-here s.worker k w) in
    rw e (change ∙ ap (λ z. sum_below f.workers (λ i. count (s.worker i)) + z) here)

-- a worker's part of a sum
pub over_has_one : (f : Frame) (s : State) (k : ℕ) (count : Worker → ℕ) → k < f.workers →
    count (s.worker k) ≤ over f s count
unfolding over
over_has_one f s k count lt = term_le_sum f.workers k (λ i. count (s.worker i)) lt

-- and of two
pub over_has_two : (f : Frame) (s : State) (j k : ℕ) (count : Worker → ℕ) → j < f.workers → k < f.workers → j ≢ k →
    count (s.worker j) + count (s.worker k) ≤ over f s count
unfolding over
over_has_two f s j k count lj lk ne = terms_le_sum f.workers j k (λ i. count (s.worker i)) lj lk ne

-- what workers have is what is pending, what is carried and what is opened
pub over_has : (f : Frame) (s : State) (t : ℕ) (e : Side) → over f s (has f t e)
    ≡ over f s (λ w. times f w.pending t e) + over f s (λ w. carries w.phase t e) + count_opened f s t e
unfolding over has count_opened
over_has f s t e =
    let outer = sum_plus f.workers
    (λ i. times f (s.worker i).pending t e + carries (s.worker i).phase t e)
    (λ i. opened_at (s.worker i).phase t e) in
    let inside = sum_plus f.workers (λ i. times f (s.worker i).pending t e) (λ i. carries (s.worker i).phase t e) in
    omega (arith, outer, inside)

-- who is behind the second arrival came second or collects
pub met_parts : (f : Frame) (s : State) (t : ℕ) →
    count_met f s t ≡ over f s (λ w. second_at w.phase t) + count_collecting f s t
unfolding over count_met count_collecting
met_parts f s t =
    sum_plus f.workers (λ i. second_at (s.worker i).phase t) (λ i. collecting_at (s.worker i).phase t)

-- what stands below is ready or not
ready_below_le : (s : State) (b : Below) → ready_below s b ≤ 1
unfolding ready_below
ready_below_le s (leaf p) = omega arith
ready_below_le s (inner i) = bit_le (s.returned i)

-- a child is ready or not
pub ready_le : (f : Frame) (s : State) (t : ℕ) (e : Side) → ready f s t e ≤ 1
unfolding ready
ready_le f s t e = ready_below_le s (f.child t e)

-- a worker's part of those behind an opening
pub opened_mine : (f : Frame) (s : State) (k t : ℕ) (e : Side) → k < f.workers →
    opened_at (s.worker k).phase t e ≤ count_opened f s t e
unfolding count_opened
opened_mine f s k t e lk = over_has_one f s k (λ w. opened_at w.phase t e) lk

-- of those that collect
pub collecting_mine : (f : Frame) (s : State) (k t : ℕ) → k < f.workers →
    collecting_at (s.worker k).phase t ≤ count_collecting f s t
unfolding count_collecting
collecting_mine f s k t lk = over_has_one f s k (λ w. collecting_at w.phase t) lk

-- of those behind the second arrival
pub met_mine : (f : Frame) (s : State) (k t : ℕ) → k < f.workers →
    second_at (s.worker k).phase t + collecting_at (s.worker k).phase t ≤ count_met f s t
unfolding count_met
met_mine f s k t lk = over_has_one f s k (λ w. second_at w.phase t + collecting_at w.phase t) lk

-- two workers' parts of these
pub met_two : (f : Frame) (s : State) (j k t : ℕ) → j < f.workers → k < f.workers → j ≢ k →
    (second_at (s.worker j).phase t + collecting_at (s.worker j).phase t)
    + (second_at (s.worker k).phase t + collecting_at (s.worker k).phase t) ≤ count_met f s t
unfolding count_met
met_two f s j k t lj lk ne = over_has_two f s j k (λ w. second_at w.phase t + collecting_at w.phase t) lj lk ne

-- two workers' parts of those behind an opening
pub opened_two : (f : Frame) (s : State) (j k t : ℕ) (e : Side) → j < f.workers → k < f.workers → j ≢ k →
    opened_at (s.worker j).phase t e + opened_at (s.worker k).phase t e ≤ count_opened f s t e
unfolding count_opened
opened_two f s j k t e lj lk ne = over_has_two f s j k (λ w. opened_at w.phase t e) lj lk ne

-- both hold where the product is 1
pub bit-and : (x y : Bool) → bit (x && y) ≡ bit x * bit y
bit-and true true = refl
bit-and true false = refl
bit-and false true = refl
bit-and false false = refl

-- one worker alone is behind the second arrival at a node, which is live
pub record IsMetAlone (f : Frame) (s : State) (t : ℕ) : Type 0 where
  pub alone : count_met f s t ≡ 1
  pub unreturned : bit (s.returned t) ≡ 0
  pub arrived : (e : Side) → bit (s.arrived t e) ≡ 1
  pub live : f.live_node t ≡ true

module _ (f : Frame) (s : State) (ok : IsLawful f s) where
  -- a side of a lawful state
  pub side_of : (t : ℕ) (e : Side) → t < f.nodes → IsLawfulSide f s t e
  side_of t Left lt = (ok.nodes t lt).left
  side_of t Right lt = (ok.nodes t lt).right

  module _ (t : ℕ) (e : Side) (lt : t < f.nodes) where
    -- who has a child has a live one
    pub live_if_had : 0 < over f s (has f t e) → live_at f t e ≡ true
    live_if_had had = elim (cases_Bool (live_at f t e)) [
      | inl h ↦ h
      | inr h ↦ absurd (omega (arith, (side_of t e lt).rests_alone h))
    ]

    -- a side is opened as often as it has arrived or a worker has it open, whether or not it is live
    pub opened_all : bit (s.opened t e) ≡ bit (s.arrived t e) + count_opened f s t e
    opened_all = elim (cases_Bool (live_at f t e)) [
      | inl h ↦ (side_of t e lt).opened h
      | inr h ↦
          let alone = (side_of t e lt).rests_alone h in
          let parts = over_has f s t e in
          let o = bit-true ((side_of t e lt).rests_opened h) in
          let a = bit-true ((side_of t e lt).rests_arrived h) in
          omega (arith, alone, parts, o, a)
    ]

    -- where a worker carries to a side, nobody has opened it
    pub carried : (k : ℕ) → k < f.workers → carries (s.worker k).phase t e ≡ 1 →
        (bit (s.arrived t e) ≡ 0) × (bit (s.opened t e) ≡ 0) × (count_opened f s t e ≡ 0)
    carried k lk one =
        let parts = over_has f s t e in
        let mine = over_has_one f s k (λ w. carries w.phase t e) lk in
        let live = live_if_had (omega (arith, parts, mine, one)) in
        let once = (side_of t e lt).once live in
        let small = ready_le f s t e in
        let all = opened_all in
        (omega (arith), omega arith, omega arith)

    -- where a worker has opened a side, it alone has, and the side has not arrived
    pub opened_by : (k : ℕ) → k < f.workers → opened_at (s.worker k).phase t e ≡ 1 →
        (bit (s.arrived t e) ≡ 0) × (bit (s.opened t e) ≡ 1) × (count_opened f s t e ≡ 1)
    opened_by k lk one =
        let parts = over_has f s t e in
        let mine : opened_at (s.worker k).phase t e ≤ count_opened f s t e = opened_mine f s k t e lk in
        let live = live_if_had (omega (arith, parts, mine, one)) in
        let once = (side_of t e lt).once live in
        let small = ready_le f s t e in
        let all = opened_all in
        (omega (arith), omega arith, omega arith)

    -- where a worker came second or collects, it alone does, both sides have arrived and nobody has a side opened
    pub met_by : (k : ℕ) → k < f.workers → second_at (s.worker k).phase t + collecting_at (s.worker k).phase t ≡ 1 →
        IsMetAlone f s t
    met_by k lk one =
        let mine = met_mine f s k t lk in
        let met = (ok.nodes t lt).met in
        let small = bit_le (s.arrived t Left && s.arrived t Right) in
        let both = and_parts (s.arrived t Left) (s.arrived t Right) (bit-one _ (omega arith)) in
        let none : bit (s.returned t) ≡ 0 = omega arith in
        record {
          alone = omega arith;
          unreturned = none;
          arrived = λ e. bit-true (on e both);
          live = elim (cases_Bool (f.live_node t)) [
            | inl h ↦ h
            | inr h ↦
                let r = bit-true ((ok.nodes t lt).rests_returned h) in
                absurd (omega (arith, r, none))
          ];
        }
      where
        on : (e : Side) → (s.arrived t Left ≡ true) × (s.arrived t Right ≡ true) → s.arrived t e ≡ true
        on Left both = both.0
        on Right both = both.1

    -- where a side has not arrived, no worker is behind the second arrival
    pub not_met : bit (s.arrived t e) ≡ 0 → count_met f s t ≡ 0
    not_met off =
        let met = (ok.nodes t lt).met in
        let part = both_off t e off in
        omega arith
      where
        both_off : (t : ℕ) (e : Side) → bit (s.arrived t e) ≡ 0 → bit (s.arrived t Left && s.arrived t Right) ≡ 0
        both_off t Left off = rw (bit-zero (s.arrived t Left) off) refl
        both_off t Right off = bit-and (s.arrived t Left) (s.arrived t Right) ∙ rw off (omega arith)

    -- and where it has, nobody has it opened
    pub arrived_alone : bit (s.arrived t e) ≡ 1 → (bit (s.opened t e) ≡ 1) × (count_opened f s t e ≡ 0)
    arrived_alone on =
        let all = opened_all in
        let small = bit_le (s.opened t e) in
        (omega arith, omega arith)
