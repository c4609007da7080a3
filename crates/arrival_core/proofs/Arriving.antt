-- Arriving keeps a state lawful.
use Rattle.std.proofs.Common.{◌≡◌, ℕ, ◌+◌, ◌*◌, ◌<◌, true, false, refl, sym, ap, ◌∙◌, arith, subst, inl, inr}
use Rattle.std.specs.Prelude.{◌&&◌}
use Rattle.std.proofs.lemmas.Bool.{cases_eq, cases_Bool}
use Rattle.arrival_core.specs.declared.packets.Side.{Side}
use Rattle.arrival_core.specs.declared.packets.Side.TheVariants.{Left, Right}
use Rattle.arrival_core.specs.declared.packets.Load.{Load}
use Rattle.arrival_core.specs.declared.packets.Place.TheVariants.{Holds}
use Rattle.arrival_core.specs.Sums.{bit}
use Rattle.arrival_core.specs.Frames.{Frame, other}
use Rattle.arrival_core.specs.States.{Worker, State}
use Rattle.arrival_core.specs.Events.{same}
use Rattle.arrival_core.specs.Lawful.{IsLawful, IsLawfulNode, IsLawfulSide, IsLawfulPlace, IsLawfulWorker}
use Rattle.arrival_core.specs.Counts.{opened_at, collecting_at, turn, count_met, is_nothing, is_out_with}
use Rattle.arrival_core.proofs.PutLaws.{bit-true, bit-false, eq-true, eq-false, same-refl, same-other, same-other_node, at-here, at-apart, put_side-same, put_side-apart, put_side-true}
use Rattle.arrival_core.proofs.CountLaws.{met_mine, opened_two, side_of, not_met}
use Rattle.arrival_core.proofs.PhaseLaws.{at_side, each_worker, unclaimed-same}
use Rattle.arrival_core.proofs.KeepLaws.{ready-same, worker-same, place-same, side_seen}
use Rattle.arrival_core.proofs.OneStep.{fits-same, step_at, step_lawful}
use Rattle.arrival_core.proofs.ArriveCounts.{both_now, Arrives, load, held_open, off, live, before, had, arrived_now, count_now, met_now, collecting_now}

module _ {f : Frame} {s n : State} {k : ℕ} {l : Load} {w : Worker} (x : Arrives f s n k l w) where
  open x use {step, step.{ok, lt, claimed, opened, arrived, collected, returned, place, worker}}
  open x use {next_is, after, worker_w, fits_is}

  -- the place that is given back is out with nobody
  out_here : (j : ℕ) → j < f.workers →
      is_out_with j (Holds l.packet) ≡ turn (n.worker j).phase (n.collected l.split l.side) l.split l.side
  unfolding is_out_with turn
  out_here = each_worker f s n k w
      (λ j v. 0 ≡ opened_at v.phase l.split l.side
      + collecting_at v.phase l.split * bit (n.collected l.split l.side)) worker
      (let a = after l.split l.side in rw a.collecting_is (omega (arith, a.opened_is)))
      (λ j lj ne.
      let two = opened_two f s j k l.split l.side lj lt (λ z. ne (sym z)) in
      let mine = (before x l.split l.side).opened_is in
      let here = at-here l.split l.side in
      let b = met_mine f s j l.split lj in
      let none = not_met f s ok l.split l.side (load x).node (held_open x).0 in
      let zero : collecting_at (s.worker j).phase l.split ≡ 0 = omega (arith, b, none) in
      rw zero (omega (arith, two, mine, here, (held_open x).2)))

  -- that place is lawful
  place_here : IsLawfulPlace f n l.split l.side
  unfolding is_nothing is_out_with
  place_here =
      let at_it : n.place l.split l.side ≡ Holds l.packet = ap (λ g. g l.split l.side) place
      ∙ put_side-same s.place l.split l.side (Holds l.packet) l.split l.side (same-refl l.split l.side) in
      let o : bit (n.opened l.split l.side) ≡ bit (s.opened l.split l.side)
      = ap (λ g. bit (g l.split l.side)) opened in
      let right = (load x).packet in
      record {
        nothing = rw at_it (omega (arith, o, (held_open x).1));
        out = rw at_it out_here;
        nobody = rw at_it (λ j le. refl);
        packet = rw at_it (λ p z. cc);
      }

  -- every place is
  place_after : (t : ℕ) (e : Side) → t < f.nodes → IsLawfulPlace f n t e
  unfolding turn
  place_after t e lt_t = elim (cases_Bool (same l.split l.side t e)) [
    | inl h ↦ at_side (IsLawfulPlace f n) l.split l.side t e h place_here
    | inr h ↦
        let b = before x t e in
        let a = after t e in
        let apart = at-apart l.split l.side t e h in
        let x : opened_at (s.worker k).phase t e ≡ 0 = omega (arith, b.opened_is, apart) in
        place-same f s n k w t e (side_of f s ok t e lt_t).place worker lt
        (ap (λ g. g t e) place ∙ put_side-apart s.place l.split l.side (Holds l.packet) t e h)
        (ap (λ g. g t e) collected)
        (ap (λ g. g t e) opened)
        (rw x (rw a.opened_is (rw a.collecting_is (rw b.collecting_is refl))))
  ]

  -- every side is
  side_after : (t : ℕ) (e : Side) → t < f.nodes → IsLawfulSide f n t e
  side_after t e lt_t =
      let old = side_of f s ok t e lt_t in
      let h = had x t e in
      let u = unclaimed-same f s n t e claimed in
      let r = arrived_now x t e in
      let y = ready-same f s n t e returned in
      let o : bit (n.opened t e) ≡ bit (s.opened t e) = ap (λ g. bit (g t e)) opened in
      let c = count_now x t e in
      record {
        once = λ li. omega (arith, h, u, r, y, old.once li);
        opened = λ li. omega (arith, o, c, r, old.opened li);
        rests_opened = λ de. ap (λ g. g t e) opened ∙ old.rests_opened de;
        rests_arrived = λ de. ap (λ g. g t e) arrived
            ∙ put_side-true s.arrived l.split l.side t e (old.rests_arrived de);
        rests_alone = λ de. omega (arith, h, old.rests_alone de);
        place = place_after t e lt_t;
      }

  -- the second arrival is the one that goes on
  met_after : (t : ℕ) → t < f.nodes →
      count_met f n t + bit (n.returned t) ≡ bit (n.arrived t Left && n.arrived t Right)
  met_after t lt_t =
      let m = met_now x t Left in
      let r : bit (n.returned t) ≡ bit (s.returned t) = ap (λ g. bit (g t)) returned in
      let old = (ok.nodes t lt_t).met in
      elim (cases_eq l.split t) [
        | inl h ↦
            let one = bit-true (eq-true l.split t h) in
            let on : n.arrived t l.side ≡ true = subst (λ z. n.arrived z l.side ≡ true) h
            (ap (λ g. g l.split l.side) arrived
            ∙ put_side-same s.arrived l.split l.side true l.split l.side (same-refl l.split l.side)) in
            let rest : n.arrived t (other l.side) ≡ s.arrived t (other l.side) = ap (λ g. g t (other l.side)) arrived
            ∙ put_side-apart s.arrived l.split l.side true t (other l.side) (same-other l.split l.side t) in
            let was : s.arrived t l.side ≡ false = subst (λ z. s.arrived z l.side ≡ false) h (off x) in
            let both = both_now l.side (s.arrived t) (n.arrived t) was on rest in
            let same_bit : bit (s.arrived l.split (other l.side)) ≡ bit (s.arrived t (other l.side))
            = ap (λ z. bit (s.arrived z (other l.side))) h in
            let m2 : count_met f n t ≡ count_met f s t + 1 * bit (s.arrived l.split (other l.side)) = rw one at m in
            omega (arith, m2, r, old, both, same_bit)
        | inr h ↦
            let zero = bit-false (eq-false l.split t h) in
            let al : n.arrived t Left ≡ s.arrived t Left = ap (λ g. g t Left) arrived
            ∙ put_side-apart s.arrived l.split l.side true t Left (same-other_node l.split l.side t Left h) in
            let ar : n.arrived t Right ≡ s.arrived t Right = ap (λ g. g t Right) arrived
            ∙ put_side-apart s.arrived l.split l.side true t Right (same-other_node l.split l.side t Right h) in
            let m2 : count_met f n t ≡ count_met f s t + 0 * bit (s.arrived l.split (other l.side)) = rw zero at m in
            rw al (rw ar (omega (arith, m2, r, old)))
      ]

  -- every node is
  node_after : (t : ℕ) → t < f.nodes → IsLawfulNode f n t
  node_after t lt_t =
      let old = ok.nodes t lt_t in
      let c = collecting_now x t Left in
      let r : n.returned t ≡ s.returned t = ap (λ g. g t) returned in
      let cl : n.collected t Left ≡ s.collected t Left = ap (λ g. g t Left) collected in
      let cr : n.collected t Right ≡ s.collected t Right = ap (λ g. g t Right) collected in
      record {
        left = side_after t Left lt_t;
        right = side_after t Right lt_t;
        met = met_after t lt_t;
        collected = λ li. rw cl (rw cr (rw r (omega (arith, c, old.collected li))));
        rests_returned = λ de. r ∙ old.rests_returned de;
        rests_uncollected = λ de. rw cl (rw cr (old.rests_uncollected de));
      }

  -- every worker is
  worker_after : (j : ℕ) → j < f.workers → IsLawfulWorker f n (n.worker j)
  worker_after = each_worker f s n k w (λ j v. IsLawfulWorker f n v) worker worker_w
      (λ j lj ne. worker-same f s n (s.worker j) collected claimed (ok.workers j lj))

  -- an arrival leads to a lawful state
  pub arriving_lawful : IsLawful f n
  arriving_lawful = step_lawful step node_after worker_after (fits-same step returned fits_is)
      (step_at step l.split (load x).node
      (λ t lt_t. side_seen f s n l.split l.side (live x) collected returned (λ t e.
      let o = ap (λ g. bit (g t e)) opened in omega (arith, arrived_now x t e, o)) t) next_is)
