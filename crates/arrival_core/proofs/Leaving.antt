-- Leaving keeps a state lawful.
use Rattle.std.proofs.Common.{◌≡◌, ℕ, ◌+◌, ◌*◌, ◌<◌, false, refl, sym, ap, ◌∙◌, arith, subst, inl, inr}
use Rattle.std.specs.Prelude.{◌==◌}
use Rattle.std.proofs.lemmas.Bool.{cases_eq, cases_Bool}
use Rattle.arrival_core.specs.declared.packets.Packet.{Packet}
use Rattle.arrival_core.specs.declared.packets.Side.{Side}
use Rattle.arrival_core.specs.declared.packets.Side.TheVariants.{Left, Right}
use Rattle.arrival_core.specs.declared.packets.Load.{Load}
use Rattle.arrival_core.specs.declared.packets.Place.TheVariants.{Holds}
use Rattle.arrival_core.specs.Sums.{bit}
use Rattle.arrival_core.specs.Frames.{Frame, live_at, live_below, other}
use Rattle.arrival_core.specs.States.{Worker, State}
use Rattle.arrival_core.specs.Events.{same}
use Rattle.arrival_core.specs.Lawful.{IsLawful, IsLawfulNode, IsLawfulSide, IsLawfulPlace, IsLawfulWorker}
use Rattle.arrival_core.specs.Counts.{opened_at, collecting_at, turn, is_nothing, is_out_with, steps_at, steps_of_side, steps_of_node}
use Rattle.arrival_core.proofs.PutLaws.{bit-true, bit-false, bit-same, eq-false, same-refl, put-true, side_apart, put_side-same, put_side-apart}
use Rattle.arrival_core.proofs.CountLaws.{opened_mine, met_two, side_of, arrived_alone}
use Rattle.arrival_core.proofs.PhaseLaws.{at_side, sum_more, each_worker, unclaimed-same}
use Rattle.arrival_core.proofs.KeepLaws.{worker-same, place-same}
use Rattle.arrival_core.proofs.OneStep.{step_at, step_lawful}
use Rattle.arrival_core.proofs.LeaveCounts.{Leaves, right, load, before, alone, returned_now, up_none, ready_now, had, count_now, met_now, collecting_now}

module _ {f : Frame} {s n : State} {k : ℕ} {l : Load} {found : Packet} {w : Worker} (x : Leaves f s n k l found w) where
  open x use {step, step.{ok, lt, claimed, opened, arrived, collected, returned, place, worker}}
  open x use {next_is, after, worker_w, fits_is}

  -- the place that is given back is out with nobody
  out_here : (j : ℕ) → j < f.workers → is_out_with j (Holds found)
      ≡ turn (n.worker j).phase (n.collected l.split (other l.side)) l.split (other l.side)
  unfolding is_out_with turn
  out_here = each_worker f s n k w
      (λ j v. 0 ≡ opened_at v.phase l.split (other l.side)
      + collecting_at v.phase l.split * bit (n.collected l.split (other l.side))) worker
      (let a = after l.split (other l.side) in rw a.collecting_is (omega (arith, a.opened_is)))
      (λ j lj ne.
      let a = opened_mine f s j l.split (other l.side) lj in
      let quiet = (arrived_alone f s ok l.split (other l.side) (load x).node ((alone x).arrived (other l.side))).1 in
      let two = met_two f s j k l.split lj lt (λ z. ne (sym z)) in
      let mine = (before x l.split l.side).collecting_is in
      let zero : collecting_at (s.worker j).phase l.split ≡ 0 = omega (arith, two, mine, bit-same l.split, (alone x).alone) in
      rw zero (omega (arith, a, quiet)))

  -- that place is lawful
  place_here : IsLawfulPlace f n l.split (other l.side)
  unfolding is_nothing is_out_with
  place_here =
      let at_it : n.place l.split (other l.side) ≡ Holds found = ap (λ g. g l.split (other l.side)) place
      ∙ put_side-same s.place l.split (other l.side) (Holds found) l.split (other l.side)
      (same-refl l.split (other l.side)) in
      let o : bit (n.opened l.split (other l.side)) ≡ bit (s.opened l.split (other l.side))
      = ap (λ g. bit (g l.split (other l.side))) opened in
      let on = (arrived_alone f s ok l.split (other l.side) (load x).node ((alone x).arrived (other l.side))).0 in
      let theirs = (right x).theirs in
      record {
        nothing = rw at_it (omega (arith, o, on));
        out = rw at_it out_here;
        nobody = rw at_it (λ j le. refl);
        packet = rw at_it (λ p z. cc);
      }

  -- every place is
  place_after : (t : ℕ) (e : Side) → t < f.nodes → IsLawfulPlace f n t e
  unfolding turn
  place_after t e lt_t = elim (cases_Bool (same l.split (other l.side) t e)) [
    | inl h ↦ at_side (IsLawfulPlace f n) l.split (other l.side) t e h place_here
    | inr h ↦
        let b = before x t e in
        let a = after t e in
        let zero : bit (l.split == t) * bit (s.collected t e) ≡ 0 = elim (cases_eq l.split t) [
          | inl z ↦
              let h2 : same l.split (other l.side) l.split e ≡ false
              = subst (λ t. same l.split (other l.side) t e ≡ false) (sym z) h in
              let side = side_apart l.split l.side e h2 in
              let off : s.collected t e ≡ false = subst (λ t. s.collected t e ≡ false) z
              (subst (λ e. s.collected l.split e ≡ false) side (right x).own_side) in
              rw off (omega arith)
          | inr z ↦ rw (bit-false (eq-false l.split t z)) (omega arith)
        ] in
        place-same f s n k w t e (side_of f s ok t e lt_t).place worker lt
        (ap (λ g. g t e) place ∙ put_side-apart s.place l.split (other l.side) (Holds found) t e h)
        (ap (λ g. g t e) collected)
        (ap (λ g. g t e) opened)
        (rw a.opened_is (rw b.opened_is (rw a.collecting_is (rw b.collecting_is (omega (arith, zero))))))
  ]

  -- every side is
  side_after : (t : ℕ) (e : Side) → t < f.nodes → IsLawfulSide f n t e
  unfolding live_at live_below
  side_after t e lt_t =
      let old = side_of f s ok t e lt_t in
      let h = had x t e in
      let u = unclaimed-same f s n t e claimed in
      let r : bit (n.arrived t e) ≡ bit (s.arrived t e) = ap (λ g. bit (g t e)) arrived in
      let y = ready_now x t e lt_t in
      let o : bit (n.opened t e) ≡ bit (s.opened t e) = ap (λ g. bit (g t e)) opened in
      let c = count_now x t e in
      record {
        once = λ li. omega (arith, h, u, r, y, old.once li);
        opened = λ li. omega (arith, o, c, r, old.opened li);
        rests_opened = λ de. ap (λ g. g t e) opened ∙ old.rests_opened de;
        rests_arrived = λ de. ap (λ g. g t e) arrived ∙ old.rests_arrived de;
        rests_alone = λ de.
            let none = up_none x t e (λ z.
            let dead : f.live_node l.split ≡ false = rw z at de in
            let on = bit-true (alone x).live in
            let off = bit-false dead in
            omega (arith, on, off)) in
            omega (arith, h, none, old.rests_alone de);
        place = place_after t e lt_t;
      }

  -- every node is
  node_after : (t : ℕ) → t < f.nodes → IsLawfulNode f n t
  node_after t lt_t =
      let old = ok.nodes t lt_t in
      let m = met_now x t Left in
      let c = collecting_now x t Left in
      let r = returned_now x t in
      let al : n.arrived t Left ≡ s.arrived t Left = ap (λ g. g t Left) arrived in
      let ar : n.arrived t Right ≡ s.arrived t Right = ap (λ g. g t Right) arrived in
      let cl : n.collected t Left ≡ s.collected t Left = ap (λ g. g t Left) collected in
      let cr : n.collected t Right ≡ s.collected t Right = ap (λ g. g t Right) collected in
      record {
        left = side_after t Left lt_t;
        right = side_after t Right lt_t;
        met = rw al (rw ar (omega (arith, m, r, old.met)));
        collected = λ li. rw cl (rw cr (omega (arith, c, r, old.collected li)));
        rests_returned = λ de. ap (λ g. g t) returned ∙ put-true s.returned l.split t (old.rests_returned de);
        rests_uncollected = λ de. rw cl (rw cr (old.rests_uncollected de));
      }

  -- every worker is
  worker_after : (j : ℕ) → j < f.workers → IsLawfulWorker f n (n.worker j)
  worker_after = each_worker f s n k w (λ j v. IsLawfulWorker f n v) worker worker_w
      (λ j lj ne. worker-same f s n (s.worker j) collected claimed (ok.workers j lj))

  -- only a live node is left
  live_here : (t : ℕ) → bit (f.live_node t) * bit (l.split == t) ≡ bit (l.split == t)
  live_here t = elim (cases_eq l.split t) [
    | inl z ↦ subst (λ t. bit (f.live_node t) * bit (l.split == t) ≡ bit (l.split == t)) z
        (rw (bit-true (alone x).live) (omega arith))
    | inr z ↦ rw (bit-false (eq-false l.split t z)) (omega arith)
  ]

  -- one event more is seen at its node
  steps_more : (t : ℕ) → t < f.nodes → steps_at f n t ≡ steps_at f s t + bit (l.split == t)
  unfolding steps_at steps_of_side steps_of_node
  steps_more t lt_t =
      let r = returned_now x t in
      let liv = live_here t in
      rw opened (rw arrived (rw collected (rw r (omega (arith, liv)))))

  -- and one fit more
  fits_more : (t : ℕ) → t < f.nodes →
      bit (f.live_node t) * bit (n.returned t) ≡ bit (f.live_node t) * bit (s.returned t) + bit (l.split == t)
  fits_more t lt_t =
      let r = returned_now x t in
      let liv = live_here t in
      rw r (omega (arith, liv))

  -- a leave leads to a lawful state
  pub leaving_lawful : IsLawful f n
  leaving_lawful =
      let fit = sum_more f.nodes l.split (λ t. bit (f.live_node t) * bit (n.returned t))
      (λ t. bit (f.live_node t) * bit (s.returned t)) (load x).node fits_more in
      step_lawful step node_after worker_after (omega (arith, fits_is, fit))
      (step_at step l.split (load x).node steps_more next_is)
