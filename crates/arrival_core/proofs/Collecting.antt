-- Collecting keeps a state lawful.
use Rattle.std.proofs.Common.{◌≡◌, ℕ, ◌+◌, ◌*◌, ◌<◌, true, false, sym, ap, ◌∙◌, arith, subst, inl, inr}
use Rattle.std.specs.Prelude.{◌==◌}
use Rattle.std.proofs.lemmas.Bool.{cases_eq, cases_Bool}
use Rattle.arrival_core.specs.declared.packets.Side.{Side}
use Rattle.arrival_core.specs.declared.packets.Side.TheVariants.{Left, Right}
use Rattle.arrival_core.specs.declared.packets.Load.{Load}
use Rattle.arrival_core.specs.declared.packets.Place.TheVariants.{Out}
use Rattle.arrival_core.specs.Sums.{bit}
use Rattle.arrival_core.specs.Frames.{Frame, other}
use Rattle.arrival_core.specs.States.{Worker, State}
use Rattle.arrival_core.specs.Events.{same}
use Rattle.arrival_core.specs.Lawful.{IsLawful, IsLawfulNode, IsLawfulSide, IsLawfulPlace, IsLawfulWorker, Fits, Carries}
use Rattle.arrival_core.specs.Counts.{at, opened_at, collecting_at, turn, is_nothing, is_out_with, steps_at, steps_of_side, steps_of_node}
use Rattle.arrival_core.proofs.PutLaws.{bit-zero, bit-true, bit-false, bit-same, eq-false, same-refl, same-other_node, at-here, other-same, put_side-same, put_side-apart}
use Rattle.arrival_core.proofs.CountLaws.{opened_mine, side_of, arrived_alone}
use Rattle.arrival_core.proofs.PhaseLaws.{at_sides, at_side, each_worker, unclaimed-same}
use Rattle.arrival_core.proofs.KeepLaws.{carries-apart, ready-same, worker-moved, place-same}
use Rattle.arrival_core.proofs.OneStep.{fits-same, step_at, step_lawful}
use Rattle.arrival_core.proofs.CollectCounts.{Collects, found_is, load, alone, uncollected, collected_now, others, before, after, had, count_now, met_now, collecting_now}

module _ {f : Frame} {s n : State} {k : ℕ} {l : Load} {w : Worker} (x : Collects f s n k l w) where
  open x use {step, step.{ok, lt, claimed, opened, arrived, collected, returned, place, worker}}
  open x use {next_is, pending_is, phase_is, fits_is}

  -- the place that is taken out is out with the worker alone
  out_here : (j : ℕ) → j < f.workers → is_out_with j (Out k)
      ≡ turn (n.worker j).phase (n.collected l.split (other l.side)) l.split (other l.side)
  unfolding is_out_with turn
  out_here = each_worker f s n k w
      (λ j v. bit (k == j) ≡ opened_at v.phase l.split (other l.side)
      + collecting_at v.phase l.split * bit (n.collected l.split (other l.side))) worker
      (let a = after x l.split (other l.side) in
      let here = at-here l.split (other l.side) in
      let on : bit (n.collected l.split (other l.side)) ≡ 1
      = omega (arith, collected_now x l.split (other l.side), here, uncollected x (other l.side)) in
      rw (bit-same k) (rw on (omega (arith, a.opened_is, a.collecting_is, bit-same l.split))))
      (λ j lj ne.
      let a = opened_mine f s j l.split (other l.side) lj in
      let quiet = (arrived_alone f s ok l.split (other l.side) (load x).node ((alone x).arrived (other l.side))).1 in
      let zero = others x j lj ne in
      let apart = bit-false (eq-false k j ne) in
      rw apart (rw zero (omega (arith, a, quiet))))

  -- that place is lawful
  place_here : IsLawfulPlace f n l.split (other l.side)
  unfolding is_nothing is_out_with
  place_here =
      let at_it : n.place l.split (other l.side) ≡ Out k = ap (λ g. g l.split (other l.side)) place
      ∙ put_side-same s.place l.split (other l.side) (Out k) l.split (other l.side)
      (same-refl l.split (other l.side)) in
      let o : bit (n.opened l.split (other l.side)) ≡ bit (s.opened l.split (other l.side))
      = ap (λ g. bit (g l.split (other l.side))) opened in
      let on = (arrived_alone f s ok l.split (other l.side) (load x).node ((alone x).arrived (other l.side))).0 in
      record {
        nothing = rw at_it (omega (arith, o, on));
        out = rw at_it out_here;
        nobody = rw at_it (λ j le. bit-false (eq-false k j (λ z. omega arith)));
        packet = rw at_it (λ p z. cc);
      }

  -- every place is
  place_after : (t : ℕ) (e : Side) → t < f.nodes → IsLawfulPlace f n t e
  unfolding turn
  place_after t e lt_t = elim (cases_Bool (same l.split (other l.side) t e)) [
    | inl h ↦ at_side (IsLawfulPlace f n) l.split (other l.side) t e h place_here
    | inr h ↦
        let b = before x t e in
        let a = after x t e in
        let zero : bit (l.split == t) * bit (s.collected t e) ≡ 0 = elim (cases_eq l.split t) [
          | inl z ↦ subst (λ t. bit (l.split == t) * bit (s.collected t e) ≡ 0) z
              (rw (uncollected x e) (omega arith))
          | inr z ↦ rw (bit-false (eq-false l.split t z)) (omega arith)
        ] in
        place-same f s n k w t e (side_of f s ok t e lt_t).place worker lt
        (ap (λ g. g t e) place ∙ put_side-apart s.place l.split (other l.side) (Out k) t e h)
        (ap (λ g. g t e) collected ∙ put_side-apart s.collected l.split (other l.side) true t e h)
        (ap (λ g. g t e) opened)
        (rw a.opened_is (rw b.opened_is (rw a.collecting_is (rw b.collecting_is (omega (arith, zero))))))
  ]

  -- every side is
  side_after : (t : ℕ) (e : Side) → t < f.nodes → IsLawfulSide f n t e
  side_after t e lt_t =
      let old = side_of f s ok t e lt_t in
      let h = had x t e in
      let u = unclaimed-same f s n t e claimed in
      let r : bit (n.arrived t e) ≡ bit (s.arrived t e) = ap (λ g. bit (g t e)) arrived in
      let y = ready-same f s n t e returned in
      let o : bit (n.opened t e) ≡ bit (s.opened t e) = ap (λ g. bit (g t e)) opened in
      let c = count_now x t e in
      record {
        once = λ li. omega (arith, h, u, r, y, old.once li);
        opened = λ li. omega (arith, o, c, r, old.opened li);
        rests_opened = λ de. ap (λ g. g t e) opened ∙ old.rests_opened de;
        rests_arrived = λ de. ap (λ g. g t e) arrived ∙ old.rests_arrived de;
        rests_alone = λ de. h ∙ old.rests_alone de;
        place = place_after t e lt_t;
      }

  -- every node is
  node_after : (t : ℕ) → t < f.nodes → IsLawfulNode f n t
  node_after t lt_t =
      let old = ok.nodes t lt_t in
      let m = met_now x t Left in
      let c = collecting_now x t Left in
      let r : n.returned t ≡ s.returned t = ap (λ g. g t) returned in
      let al : n.arrived t Left ≡ s.arrived t Left = ap (λ g. g t Left) arrived in
      let ar : n.arrived t Right ≡ s.arrived t Right = ap (λ g. g t Right) arrived in
      let cl = collected_now x t Left in
      let cr = collected_now x t Right in
      let both = at_sides l.split (other l.side) t in
      record {
        left = side_after t Left lt_t;
        right = side_after t Right lt_t;
        met = rw al (rw ar (rw r (omega (arith, m, old.met))));
        collected = λ li. rw r (omega (arith, c, cl, cr, both, old.collected li));
        rests_returned = λ de. r ∙ old.rests_returned de;
        rests_uncollected = λ de.
            let apart : bit (l.split == t) ≡ 0 = bit-false (eq-false l.split t
            (λ z. let on = bit-true (alone x).live in
            let dead : f.live_node l.split ≡ false = subst (λ z. f.live_node z ≡ false) (sym z) de in
            let off = bit-false dead in
            omega (arith, on, off))) in
            omega (arith, cl, cr, both, apart, old.rests_uncollected de);
      }

  -- the phase fits the worker
  phase_fits : Fits f w w.phase
  unfolding Fits
  phase_fits = rw phase_is tt

  -- and what it carries is right
  phase_carries : Carries f n w.phase
  unfolding Carries
  phase_carries = rw phase_is (record {
    own = (load x);
    theirs = (found_is x);
    own_side = ap (λ g. g l.split l.side) collected
        ∙ (put_side-apart s.collected l.split (other l.side) true l.split l.side (other-same l.split l.side l.split)
        ∙ bit-zero (s.collected l.split l.side) (uncollected x l.side));
    other_side = ap (λ g. g l.split (other l.side)) collected
        ∙ put_side-same s.collected l.split (other l.side) true l.split (other l.side)
        (same-refl l.split (other l.side));
  })

  -- every worker is lawful
  worker_after : (j : ℕ) → j < f.workers → IsLawfulWorker f n (n.worker j)
  worker_after = each_worker f s n k w (λ j v. IsLawfulWorker f n v) worker
      (worker-moved f s n (s.worker k) w next_is pending_is claimed phase_fits phase_carries (ok.workers k lt))
      (λ j lj ne. let old = ok.workers j lj in record {
        next = old.next;
        claimed = λ i less. ap (λ g. g i) claimed ∙ old.claimed i less;
        positions = old.positions;
        phase = old.phase;
        carries = carries-apart f s n (s.worker j).phase
            (λ t e on. ap (λ g. g t e) collected ∙ put_side-apart s.collected l.split (other l.side) true t e
            (same-other_node l.split (other l.side) t e (λ z.
            let zero = others x j lj ne in
            let two : collecting_at (s.worker j).phase l.split ≡ 1
            = subst (λ x. collecting_at (s.worker j).phase x ≡ 1) (sym z) on in
            omega (arith, zero, two))))
            old.carries;
      })

  -- one event more is seen at its node
  steps_more : (t : ℕ) → t < f.nodes → steps_at f n t ≡ steps_at f s t + bit (l.split == t)
  unfolding steps_at steps_of_side steps_of_node
  steps_more t lt_t =
      let cl = collected_now x t Left in
      let cr = collected_now x t Right in
      let both = at_sides l.split (other l.side) t in
      let liv : bit (f.live_node t) * bit (l.split == t) ≡ bit (l.split == t) = elim (cases_eq l.split t) [
        | inl z ↦ subst (λ t. bit (f.live_node t) * bit (l.split == t) ≡ bit (l.split == t)) z
            (rw (bit-true (alone x).live) (omega arith))
        | inr z ↦ rw (bit-false (eq-false l.split t z)) (omega arith)
      ] in
      let spread : bit (f.live_node t) * (at l.split (other l.side) t Left + at l.split (other l.side) t Right)
      ≡ bit (f.live_node t) * bit (l.split == t) = ap (λ z. bit (f.live_node t) * z) both in
      rw opened (rw arrived (rw returned (rw cl (rw cr (omega (arith, spread, liv))))))

  -- a collect leads to a lawful state
  pub collecting_lawful : IsLawful f n
  collecting_lawful = step_lawful step node_after worker_after (fits-same step returned fits_is)
      (step_at step l.split (load x).node steps_more next_is)
