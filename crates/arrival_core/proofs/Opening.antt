-- Opening keeps a state lawful.
use Rattle.std.proofs.Common.{◌≡◌, ℕ, ◌+◌, ◌*◌, ◌<◌, true, refl, ap, ◌∙◌, arith, inl, inr}
use Rattle.std.specs.Prelude.{◌==◌}
use Rattle.std.proofs.lemmas.Bool.{cases_Bool}
use Rattle.arrival_core.specs.declared.packets.Side.{Side}
use Rattle.arrival_core.specs.declared.packets.Side.TheVariants.{Left, Right}
use Rattle.arrival_core.specs.declared.packets.Load.{Load}
use Rattle.arrival_core.specs.declared.packets.Place.TheVariants.{Out}
use Rattle.arrival_core.specs.Sums.{bit}
use Rattle.arrival_core.specs.Frames.{Frame}
use Rattle.arrival_core.specs.States.{Worker, State}
use Rattle.arrival_core.specs.Events.{same}
use Rattle.arrival_core.specs.Lawful.{IsLawful, IsLawfulNode, IsLawfulSide, IsLawfulPlace, IsLawfulWorker, Fits, Carries}
use Rattle.arrival_core.specs.Counts.{opened_at, collecting_at, turn, is_nothing, is_out_with}
use Rattle.arrival_core.proofs.PutLaws.{bit-true, bit-false, eq-true, eq-false, same-refl, at-here, at-apart, put_side-same, put_side-apart, put_side-true}
use Rattle.arrival_core.proofs.CountLaws.{opened_mine, met_mine, side_of, not_met}
use Rattle.arrival_core.proofs.PhaseLaws.{at_side, each_worker, unclaimed-same}
use Rattle.arrival_core.proofs.KeepLaws.{ready-same, worker-same, worker-moved, node-same, place-same, side_seen}
use Rattle.arrival_core.proofs.OneStep.{fits-same, step_at, step_lawful}
use Rattle.arrival_core.proofs.OpenCounts.{Opens, load, off, live, before, after, had, opened_now, count_now, met_now, collecting_now}

module _ {f : Frame} {s n : State} {k : ℕ} {l : Load} {w : Worker} (x : Opens f s n k l w) where
  open x use {step, step.{ok, lt, claimed, opened, arrived, collected, returned, place, worker}}
  open x use {next_is, pending_is, phase_is, fits_is}

  -- the place that is taken out is out with the worker alone
  out_here : (j : ℕ) → j < f.workers →
      is_out_with j (Out k) ≡ turn (n.worker j).phase (n.collected l.split l.side) l.split l.side
  unfolding is_out_with turn
  out_here = each_worker f s n k w
      (λ j v. bit (k == j) ≡ opened_at v.phase l.split l.side
      + collecting_at v.phase l.split * bit (n.collected l.split l.side)) worker
      (let a = (after x l.split l.side).opened_is in
      let b = (after x l.split l.side).collecting_is in
      let here = at-here l.split l.side in
      let one = bit-true (eq-true k k refl) in
      rw one (rw b (omega (arith, a, here))))
      (λ j lj ne.
      let a = opened_mine f s j l.split l.side lj in
      let b = met_mine f s j l.split lj in
      let none = not_met f s ok l.split l.side (load x).node (off x).0 in
      let zero : collecting_at (s.worker j).phase l.split ≡ 0 = omega (arith, b, none) in
      let apart = bit-false (eq-false k j ne) in
      rw apart (rw zero (omega (arith, a, (off x).2))))

  -- that place is lawful
  place_here : IsLawfulPlace f n l.split l.side
  unfolding is_nothing is_out_with
  place_here =
      let at_it : n.place l.split l.side ≡ Out k = ap (λ g. g l.split l.side) place
      ∙ put_side-same s.place l.split l.side (Out k) l.split l.side (same-refl l.split l.side) in
      let here = at-here l.split l.side in
      let open_now = opened_now x l.split l.side in
      record {
        nothing = rw at_it (omega (arith, open_now, here, (off x).1));
        out = rw at_it out_here;
        nobody = rw at_it (λ j le. bit-false (eq-false k j (λ z. omega arith)));
        packet = rw at_it (λ p z. cc);
      }

  -- every place is
  place_after : (t : ℕ) (e : Side) → t < f.nodes → IsLawfulPlace f n t e
  unfolding turn
  place_after t e lt_t = elim (cases_Bool (same l.split l.side t e)) [
    | inl h ↦ at_side (IsLawfulPlace f n) l.split l.side t e h place_here
    | inr h ↦
        let b = before x t e in
        let a = after x t e in
        let apart = at-apart l.split l.side t e h in
        let x : opened_at w.phase t e ≡ 0 = omega (arith, a.opened_is, apart) in
        place-same f s n k w t e (side_of f s ok t e lt_t).place worker lt
        (ap (λ g. g t e) place ∙ put_side-apart s.place l.split l.side (Out k) t e h)
        (ap (λ g. g t e) collected)
        (ap (λ g. g t e) opened ∙ put_side-apart s.opened l.split l.side true t e h)
        (rw x (rw b.opened_is (rw a.collecting_is (rw b.collecting_is refl))))
  ]

  -- every side is
  side_after : (t : ℕ) (e : Side) → t < f.nodes → IsLawfulSide f n t e
  side_after t e lt_t =
      let old = side_of f s ok t e lt_t in
      let h = had x t e in
      let u = unclaimed-same f s n t e claimed in
      let r : bit (n.arrived t e) ≡ bit (s.arrived t e) = ap (λ g. bit (g t e)) arrived in
      let y = ready-same f s n t e returned in
      let o = opened_now x t e in
      let c = count_now x t e in
      record {
        once = λ li. omega (arith, h, u, r, y, old.once li);
        opened = λ li. omega (arith, o, c, r, old.opened li);
        rests_opened = λ de. ap (λ g. g t e) opened ∙ put_side-true s.opened l.split l.side t e (old.rests_opened de);
        rests_arrived = λ de. ap (λ g. g t e) arrived ∙ old.rests_arrived de;
        rests_alone = λ de. h ∙ old.rests_alone de;
        place = place_after t e lt_t;
      }

  -- every node is
  node_after : (t : ℕ) → t < f.nodes → IsLawfulNode f n t
  node_after t lt_t = node-same f s n t arrived collected returned (met_now x t Left) (collecting_now x t Left)
      (side_after t Left lt_t) (side_after t Right lt_t) (ok.nodes t lt_t)

  -- the phase fits the worker
  phase_fits : Fits f w w.phase
  unfolding Fits
  phase_fits = rw phase_is tt

  -- and what it carries is right
  phase_carries : Carries f n w.phase
  unfolding Carries
  phase_carries = rw phase_is (load x)

  -- every worker is lawful
  worker_after : (j : ℕ) → j < f.workers → IsLawfulWorker f n (n.worker j)
  worker_after = each_worker f s n k w (λ j v. IsLawfulWorker f n v) worker
      (worker-moved f s n (s.worker k) w next_is pending_is claimed phase_fits phase_carries (ok.workers k lt))
      (λ j lj ne. worker-same f s n (s.worker j) collected claimed (ok.workers j lj))

  -- an open leads to a lawful state
  pub opening_lawful : IsLawful f n
  opening_lawful = step_lawful step node_after worker_after (fits-same step returned fits_is)
      (step_at step l.split (load x).node
      (λ t lt_t. side_seen f s n l.split l.side (live x) collected returned (λ t e.
      let a = ap (λ g. bit (g t e)) arrived in omega (arith, opened_now x t e, a)) t) next_is)
