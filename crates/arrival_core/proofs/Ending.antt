-- Where all workers have ended, all is fitted: by induction on the height of a node.
use Rattle.std.proofs.Common.{◌≡◌, ℕ, suc, zero, ◌+◌, ◌*◌, ◌<◌, true, refl, ◌∙◌, arith, subst, inl, inr, []}
use Rattle.std.specs.Prelude.{◌&&◌}
use Rattle.std.proofs.lemmas.Bool.{cases_lt, cases_Bool, and_parts}
use Rattle.arrival_core.specs.declared.packets.Side.{Side}
use Rattle.arrival_core.specs.declared.packets.Side.TheVariants.{Left, Right}
use Rattle.arrival_core.specs.declared.packets.Place.TheVariants.{Holds}
use Rattle.arrival_core.specs.Sums.{bit, sum_below}
use Rattle.arrival_core.specs.Frames.{Frame, Below, live_at, packet_at}
use Rattle.arrival_core.specs.Frames.Below.{leaf, inner}
use Rattle.arrival_core.specs.FrameLaws.{IsFrame}
use Rattle.arrival_core.specs.States.{Worker, State}
use Rattle.arrival_core.specs.Lawful.{IsLawful, Fits}
use Rattle.arrival_core.specs.Counts.{over, has, times, opened_at, second_at, collecting_at, turn, unclaimed, ready, ready_below, count_opened, count_met, count_collecting, steps_at, steps_of_side, steps_of_node}
use Rattle.arrival_core.proofs.SumLaws.{sum_same, sum_plus, sum_zero, sum_of_same, sum_twice}
use Rattle.arrival_core.proofs.PlaceCounts.{full_is}
use Rattle.arrival_core.proofs.PutLaws.{bit_le, bit-one, bit-true, bit-false}
use Rattle.arrival_core.proofs.CountLaws.{side_of, arrived_alone}
use Rattle.arrival_core.proofs.PhaseLaws.{when_ended, has_is}
use Rattle.arrival_core.specs.Complete.{HaveEnded, IsComplete, live_children, live_nodes}

module _ (f : Frame) (fr : IsFrame f) (s : State) (ok : IsLawful f s) (some : 0 < f.workers) (done : HaveEnded f s)
  where
    -- a worker that has ended has nothing pending and no batch left
    idle : (k : ℕ) → k < f.workers → ((s.worker k).pending ≡ []) × ((s.worker k).next ≡ f.batches)
    unfolding Fits
    idle k lt = subst (Fits f (s.worker k)) (done.each k lt) (ok.workers k lt).phase

    -- what is 0 for each worker is 0 for all
    over_ended : (count : Worker → ℕ) → ((k : ℕ) → k < f.workers → count (s.worker k) ≡ 0) → over f s count ≡ 0
    unfolding over
    over_ended count e = sum_zero f.workers (λ k. count (s.worker k)) e

    -- nobody has a child
    had : (t : ℕ) (e : Side) → over f s (has f t e) ≡ 0
    unfolding times
    had t e = over_ended (has f t e) (λ k lt.
        let h = has_is f (s.worker k) t e _ _ _ _ (when_ended (s.worker k).phase t e (done.each k lt)) in
        let none : times f (s.worker k).pending t e ≡ 0 = rw (idle k lt).0 refl in
        omega (arith, h, none))

    -- nobody is behind an opening
    opened_zero : (t : ℕ) (e : Side) → count_opened f s t e ≡ 0
    unfolding count_opened
    opened_zero t e = over_ended (λ w. opened_at w.phase t e)
        (λ k lt. (when_ended (s.worker k).phase t e (done.each k lt)).opened_is)

    -- nobody is behind a second arrival
    met_zero : (t : ℕ) → count_met f s t ≡ 0
    unfolding count_met
    met_zero t = over_ended (λ w. second_at w.phase t + collecting_at w.phase t) (λ k lt.
        let c = when_ended (s.worker k).phase t Left (done.each k lt) in omega (arith, c.second_is, c.collecting_is))

    -- nobody collects
    collecting_zero : (t : ℕ) → count_collecting f s t ≡ 0
    unfolding count_collecting
    collecting_zero t = over_ended (λ w. collecting_at w.phase t)
        (λ k lt. (when_ended (s.worker k).phase t Left (done.each k lt)).collecting_is)

    -- every batch is claimed
    all_claimed : (t : ℕ) (e : Side) → unclaimed f s t e ≡ 0
    unfolding unclaimed
    all_claimed t e = sum_zero f.batches _ (λ j lt.
        let on : s.claimed j ≡ true = (ok.workers 0 some).claimed j (omega (arith, (idle 0 some).1)) in
        rw on (omega arith))

    -- a child that is ready has arrived
    arrived_if_ready : (t : ℕ) (e : Side) → t < f.nodes → ready f s t e ≡ 1 → s.arrived t e ≡ true
    arrived_if_ready t e lt r = elim (cases_Bool (live_at f t e)) [
      | inl h ↦
          let once = (side_of f s ok t e lt).once h in
          bit-one (s.arrived t e) (omega (arith, once, had t e, all_claimed t e, r))
      | inr h ↦ (side_of f s ok t e lt).rests_arrived h
    ]

    -- a node whose sides have arrived is returned
    returned_if_arrived : (t : ℕ) → t < f.nodes → s.arrived t Left ≡ true → s.arrived t Right ≡ true →
        s.returned t ≡ true
    returned_if_arrived t lt a b =
        let m = (ok.nodes t lt).met in
        let both : bit (s.arrived t Left && s.arrived t Right) ≡ 1 = rw a (rw b refl) in
        bit-one (s.returned t) (omega (arith, m, both, met_zero t))

    -- a child is ready where all lower nodes are returned
    ready_if_below : (t : ℕ) (e : Side) → t < f.nodes →
        ((i : ℕ) → fr.height i < fr.height t → i < f.nodes → s.returned i ≡ true) → ready f s t e ≡ 1
    unfolding ready ready_below
    ready_if_below t e lt below = by_child (f.child t e) refl
      where
        by_child : (b : Below) → f.child t e ≡ b → ready_below s b ≡ 1
        by_child (leaf p) z = refl
        by_child (inner i) z = bit-true (below i (fr.lower t e i lt z) (fr.child_node t e i lt z))

    -- every node up to a height is returned
    all_returned : (h t : ℕ) → fr.height t < h → t < f.nodes → s.returned t ≡ true
    all_returned zero t low lt = absurd (omega arith)
    all_returned (suc h) t low lt = returned_if_arrived t lt
        (arrived_if_ready t Left lt
        (ready_if_below t Left lt (λ i less li. all_returned h i (omega (arith, less, low)) li)))
        (arrived_if_ready t Right lt
        (ready_if_below t Right lt (λ i less li. all_returned h i (omega (arith, less, low)) li)))

    -- every node is returned
    pub returned : (t : ℕ) → t < f.nodes → s.returned t ≡ true
    returned t lt = all_returned (suc (fr.height t)) t (omega arith) lt

    -- every side has arrived
    arrived : (t : ℕ) (e : Side) → t < f.nodes → s.arrived t e ≡ true
    arrived t e lt =
        let r = bit-true (returned t lt) in
        let m = (ok.nodes t lt).met in
        let small = bit_le (s.arrived t Left && s.arrived t Right) in
        let both = and_parts (s.arrived t Left) (s.arrived t Right) (bit-one _ (omega (arith, r, m, small))) in
        by_side e both.0 both.1
      where
        by_side : (e : Side) → s.arrived t Left ≡ true → s.arrived t Right ≡ true → s.arrived t e ≡ true
        by_side Left a b = a
        by_side Right a b = b

    -- every side is opened
    opened : (t : ℕ) (e : Side) → t < f.nodes → bit (s.opened t e) ≡ 1
    opened t e lt = (arrived_alone f s ok t e lt (bit-true (arrived t e lt))).0

    -- every place holds its child's packet
    places : (t : ℕ) (e : Side) → t < f.nodes → s.place t e ≡ Holds (packet_at f t e)
    unfolding turn
    places t e lt =
        let p = (side_of f s ok t e lt).place in
        full_is (s.place t e) (packet_at f t e) (omega (arith, p.nothing, opened t e lt))
        (λ j. elim (cases_lt j f.workers) [
          | inl less ↦
              let c = when_ended (s.worker j).phase t e (done.each j less) in
              p.out j less ∙ rw c.opened_is (rw c.collecting_is (omega arith))
          | inr more ↦ p.nobody j more
        ])
        p.packet

    -- the fits that are seen are the live nodes
    fits_sum : sum_below f.nodes (λ t. bit (f.live_node t) * bit (s.returned t)) ≡ live_nodes f
    unfolding live_nodes
    fits_sum = sum_same f.nodes _ _ (λ t lt. rw (returned t lt) (omega arith))

    -- each worker has been at every batch
    nexts_sum : over f s (λ w. w.next) ≡ f.workers * f.batches
    unfolding over
    nexts_sum = sum_same f.workers _ (λ i. f.batches) (λ k lt. (idle k lt).1) ∙ sum_of_same f.workers f.batches

    -- the events that a node and its sides had
    steps_here : (t : ℕ) → t < f.nodes →
        steps_at f s t ≡ 2 * (bit (live_at f t Left) + bit (live_at f t Right)) + 2 * bit (f.live_node t)
    unfolding steps_at steps_of_side steps_of_node
    steps_here t lt =
        let ol = opened t Left lt in
        let or = opened t Right lt in
        let al = bit-true (arrived t Left lt) in
        let ar = bit-true (arrived t Right lt) in
        let r = bit-true (returned t lt) in
        let c : bit (f.live_node t) * (bit (s.collected t Left) + bit (s.collected t Right)) ≡ bit (f.live_node t)
        = elim (cases_Bool (f.live_node t)) [
          | inl h ↦
              let both = (ok.nodes t lt).collected h in
              rw (bit-true h) (omega (arith, both, r, collecting_zero t))
          | inr h ↦ rw (bit-false h) (omega arith)
        ] in
        rw ol (rw or (rw al (rw ar (rw r (omega (arith, c))))))

    -- the events that are seen
    steps_sum : sum_below f.nodes (steps_at f s) ≡ 2 * live_children f + 2 * live_nodes f
    unfolding live_children live_nodes
    steps_sum = sum_same f.nodes _ _ steps_here
        ∙ (sum_plus f.nodes (λ t. 2 * (bit (live_at f t Left) + bit (live_at f t Right))) (λ t. 2 * bit (f.live_node t))
        ∙ twice)
      where
        twice : sum_below f.nodes (λ t. 2 * (bit (live_at f t Left) + bit (live_at f t Right)))
            + sum_below f.nodes (λ t. 2 * bit (f.live_node t))
            ≡ 2 * sum_below f.nodes (λ t. bit (live_at f t Left) + bit (live_at f t Right))
            + 2 * sum_below f.nodes (λ t. bit (f.live_node t))
        twice =
            let a = sum_twice f.nodes (λ t. bit (live_at f t Left) + bit (live_at f t Right)) in
            let b = sum_twice f.nodes (λ t. bit (f.live_node t)) in
            omega (arith, a, b)

    -- where all workers have ended, all is fitted and counted
    pub ended_complete : IsComplete f s
    ended_complete = record {
      returned = returned;
      places = places;
      fits = ok.fits ∙ fits_sum;
      steps = omega (arith, ok.steps, nexts_sum, steps_sum);
    }
