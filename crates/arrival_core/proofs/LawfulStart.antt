-- The start is lawful.
use Rattle.std.proofs.Common.{◌≡◌, ℕ, ◌+◌, ◌*◌, ◌<◌, Bool, true, false, refl, sym, ap, ◌∙◌, arith, subst, inl, inr}
use Rattle.std.specs.Prelude.{◌&&◌, ◌||◌, not}
use Rattle.std.proofs.lemmas.Bool.{cases_Bool}
use Rattle.arrival_core.specs.declared.packets.Side.{Side}
use Rattle.arrival_core.specs.declared.packets.Side.TheVariants.{Left, Right}
use Rattle.arrival_core.specs.declared.packets.Place.TheVariants.{Nothing, Holds}
use Rattle.arrival_core.specs.Sums.{bit, sum_below}
use Rattle.arrival_core.specs.Frames.{Frame, Below, live_at, live_below, packet_at}
use Rattle.arrival_core.specs.Frames.Below.{leaf, inner}
use Rattle.arrival_core.specs.FrameLaws.{IsFrame}
use Rattle.arrival_core.specs.States.{Worker, State}
use Rattle.arrival_core.specs.Lawful.{IsLawful, IsLawfulNode, IsLawfulSide, IsLawfulPlace, IsLawfulWorker, Fits, Carries}
use Rattle.arrival_core.specs.Counts.{over, has, times, carries, opened_at, second_at, collecting_at, turn, unclaimed, ready, ready_below, count_opened, count_met, count_collecting, is_nothing, is_out_with, steps_at, steps_of_side, steps_of_node}
use Rattle.arrival_core.proofs.SumLaws.{sum_same, sum_zero}
use Rattle.arrival_core.proofs.PutLaws.{bit-true, bit-false}
use Rattle.arrival_core.specs.Start.{fresh, IsStart}

-- not true
not-true : (b : Bool) → b ≡ true → not b ≡ false
not-true b e = rw e refl

-- not false
not-false : (b : Bool) → b ≡ false → not b ≡ true
not-false b e = rw e refl

-- nothing is both
dead_bit : (b : Bool) → bit b * bit (not b) ≡ 0
dead_bit true = omega arith
dead_bit false = omega arith

-- neither holds where both do not
both_dead : (a b c : Bool) → c ≡ (a || b) → bit (not c) ≡ bit (not a && not b)
both_dead true true c e = rw e refl
both_dead true false c e = rw e refl
both_dead false true c e = rw e refl
both_dead false false c e = rw e refl

module _ (f : Frame) (fr : IsFrame f) (s : State) (st : IsStart f s) where
  -- a sum over workers that have not begun
  over_fresh : (count : Worker → ℕ) → count fresh ≡ 0 → over f s count ≡ 0
  unfolding over
  over_fresh count e = sum_zero f.workers (λ k. count (s.worker k)) (λ i lt. ap count (st.workers i lt) ∙ e)

  -- nobody has a child
  had : (t : ℕ) (e : Side) → over f s (has f t e) ≡ 0
  unfolding has times carries opened_at fresh
  had t e = over_fresh (has f t e) refl

  -- nobody is behind an opening
  opened_zero : (t : ℕ) (e : Side) → count_opened f s t e ≡ 0
  unfolding count_opened opened_at fresh
  opened_zero t e = over_fresh (λ w. opened_at w.phase t e) refl

  -- nobody is behind a second arrival
  met_zero : (t : ℕ) → count_met f s t ≡ 0
  unfolding count_met second_at collecting_at fresh
  met_zero t = over_fresh (λ w. second_at w.phase t + collecting_at w.phase t) refl

  -- nobody collects
  collecting_zero : (t : ℕ) → count_collecting f s t ≡ 0
  unfolding count_collecting collecting_at fresh
  collecting_zero t = over_fresh (λ w. collecting_at w.phase t) refl

  -- a live child is in the batches where it is ready
  once : (t : ℕ) (e : Side) → t < f.nodes → live_at f t e ≡ true → unclaimed f s t e ≡ ready f s t e
  unfolding unclaimed ready ready_below live_at live_below
  once t e lt live = all ∙ by_child (f.child t e) refl
    where
      all : sum_below f.batches (λ j. bit (not (s.claimed j)) * times f (f.batch j) t e)
          ≡ sum_below f.batches (λ j. times f (f.batch j) t e)
      all = sum_same f.batches _ _ (λ i li. rw (st.claimed i li) (omega arith))

      by_child : (b : Below) → f.child t e ≡ b →
          sum_below f.batches (λ j. times f (f.batch j) t e) ≡ ready_below s b
      by_child (leaf p) h =
          let on : f.live_leaf p ≡ true = rw h at live in
          fr.batched_leaf t e p lt h ∙ bit-true on
      by_child (inner i) h =
          let on : f.live_node i ≡ true = rw h at live in
          let off = bit-false (st.returned i (fr.child_node t e i lt h) ∙ not-true (f.live_node i) on) in
          let none = fr.batched_inner t e i lt h in
          omega (arith, none, off)

  -- it is nobody's turn
  fresh_turn : (k : ℕ) → k < f.workers → (c : Bool) (t : ℕ) (e : Side) → turn (s.worker k).phase c t e ≡ 0
  unfolding turn opened_at collecting_at fresh
  fresh_turn k lt c t e = rw (st.workers k lt) (omega arith)

  -- every place is lawful
  place_start : (t : ℕ) (e : Side) → t < f.nodes → IsLawfulPlace f s t e
  unfolding is_nothing is_out_with
  place_start t e lt =
      let o = st.opened t e lt in
      elim (cases_Bool (live_at f t e)) [
        | inl h ↦
            let at_it : s.place t e ≡ Nothing = st.place t e lt ∙ rw h refl in
            let shut = bit-false (o ∙ not-true (live_at f t e) h) in
            record {
              nothing = rw at_it (omega (arith, shut));
              out = λ k lk. rw at_it (sym (fresh_turn k lk (s.collected t e) t e));
              nobody = rw at_it (λ k le. refl);
              packet = rw at_it (λ p z. cc);
            }
        | inr h ↦
            let at_it : s.place t e ≡ Holds (packet_at f t e) = st.place t e lt ∙ rw h refl in
            let on = bit-true (o ∙ not-false (live_at f t e) h) in
            record {
              nothing = rw at_it (omega (arith, on));
              out = λ k lk. rw at_it (sym (fresh_turn k lk (s.collected t e) t e));
              nobody = rw at_it (λ k le. refl);
              packet = rw at_it (λ p z. cc);
            }
      ]

  -- every side is
  side_start : (t : ℕ) (e : Side) → t < f.nodes → IsLawfulSide f s t e
  side_start t e lt =
      let h = had t e in
      let o = opened_zero t e in
      let so : bit (s.opened t e) ≡ bit (not (live_at f t e)) = ap bit (st.opened t e lt) in
      let sa : bit (s.arrived t e) ≡ bit (not (live_at f t e)) = ap bit (st.arrived t e lt) in
      record {
        once = λ live. let a = bit-false (not-true (live_at f t e) live) in
            omega (arith, h, a, sa, once t e lt live);
        opened = λ live. omega (arith, o, so, sa);
        rests_opened = λ dead. st.opened t e lt ∙ not-false (live_at f t e) dead;
        rests_arrived = λ dead. st.arrived t e lt ∙ not-false (live_at f t e) dead;
        rests_alone = λ dead. h;
        place = place_start t e lt;
      }

  -- every node is
  node_start : (t : ℕ) → t < f.nodes → IsLawfulNode f s t
  node_start t lt =
      let m = met_zero t in
      let c = collecting_zero t in
      let al = st.arrived t Left lt in
      let ar = st.arrived t Right lt in
      let r = st.returned t lt in
      let cl = bit-false (st.collected t Left lt) in
      let cr = bit-false (st.collected t Right lt) in
      record {
        left = side_start t Left lt;
        right = side_start t Right lt;
        met = let b = both_dead (live_at f t Left) (live_at f t Right) (f.live_node t) (fr.live t lt) in
            rw al (rw ar (rw r (omega (arith, m, b))));
        collected = λ live. let z = bit-false (r ∙ not-true (f.live_node t) live) in omega (arith, c, z, cl, cr);
        rests_returned = λ dead. r ∙ not-false (f.live_node t) dead;
        rests_uncollected = λ dead. omega (arith, cl, cr);
      }

  -- a worker that has not begun is
  fresh_lawful : IsLawfulWorker f s fresh
  unfolding fresh Fits Carries
  fresh_lawful = record {
    next = omega arith;
    claimed = λ j less. absurd (omega arith);
    positions = λ j d less. absurd (omega arith);
    phase = (refl, fr.some_batch);
    carries = tt;
  }

  -- no event is seen
  steps_start : sum_below f.nodes (steps_at f s) ≡ 0
  unfolding steps_at steps_of_side steps_of_node
  steps_start = sum_zero f.nodes _ (λ t lt.
      let a = dead_bit (live_at f t Left) in
      let b = dead_bit (live_at f t Right) in
      let c = dead_bit (f.live_node t) in
      rw (st.opened t Left lt) (rw (st.opened t Right lt) (rw (st.arrived t Left lt) (rw (st.arrived t Right lt)
      (rw (st.collected t Left lt) (rw (st.collected t Right lt) (rw (st.returned t lt) (omega (arith, a, b, c)))))))))

  -- no fit is seen
  fits_start : sum_below f.nodes (λ t. bit (f.live_node t) * bit (s.returned t)) ≡ 0
  fits_start = sum_zero f.nodes _ (λ t lt. rw (st.returned t lt) (dead_bit (f.live_node t)))

  -- the start is lawful
  pub start_lawful : IsLawful f s
  unfolding fresh
  start_lawful = record {
    nodes = node_start;
    workers = λ k lt. subst (IsLawfulWorker f s) (sym (st.workers k lt)) fresh_lawful;
    fits = over_fresh (λ w. w.tally.fits) refl ∙ sym fits_start;
    steps =
        let a = over_fresh (λ w. w.tally.steps) refl in
        let b = over_fresh (λ w. w.next) refl in
        omega (arith, a, b, steps_start);
  }
