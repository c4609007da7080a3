-- Each event leads from a lawful state to a lawful one.
use Rattle.std.proofs.Common.{◌≡◌, ℕ, ◌+◌, ◌<◌, Bool, true, refl, sym, ap, ◌∙◌, arith, subst, inl, inr, List, []}
use Rattle.std.specs.Prelude.{if◌then◌else◌, Option}
use Rattle.std.proofs.lemmas.Bool.{cases_eq, cases_Bool}
use Rattle.arrival_core.specs.declared.packets.Packet.{Packet}
use Rattle.arrival_core.specs.declared.packets.Side.{Side}
use Rattle.arrival_core.specs.declared.packets.Side.TheVariants.{Left, Right}
use Rattle.arrival_core.specs.declared.packets.Load.{Load}
use Rattle.arrival_core.specs.declared.packets.Phase.{Phase}
use Rattle.arrival_core.specs.declared.packets.Phase.TheVariants.{Looking, Carry, Opened, Second, Collecting, Ended}
use Rattle.arrival_core.specs.declared.packets.Up.{Up}
use Rattle.arrival_core.specs.Frames.{Frame, packet_at, packet_below, other}
use Rattle.arrival_core.specs.FrameLaws.{IsFrame}
use Rattle.arrival_core.specs.States.{Worker, State}
use Rattle.arrival_core.specs.Events.{put, resume, join, held, stepped, go_up, take, open_side, arrive, collect, leave, event_in, event}
use Rattle.arrival_core.specs.Lawful.{IsLawful, IsLoad, IsFound, Fits, Carries}
use Rattle.arrival_core.proofs.PutLaws.{put-here, put-true}
use Rattle.arrival_core.proofs.PhaseLaws.{resumed_next, resumed_tally}
use Rattle.arrival_core.proofs.OneStep.{steps_here, resumed_amounts}
use Rattle.arrival_core.proofs.RuleOfNext.{resume_lawful}
use Rattle.arrival_core.proofs.Opening.{opening_lawful}
use Rattle.arrival_core.proofs.Arriving.{arriving_lawful}
use Rattle.arrival_core.proofs.Collecting.{collecting_lawful}
use Rattle.arrival_core.proofs.Leaving.{leaving_lawful}
use Rattle.arrival_core.proofs.Taking.{taking_lawful}
use Rattle.arrival_core.proofs.KeepLaws.{worker-same}
use Rattle.arrival_core.proofs.AfterEvents.{arrived_worker, arrived_next, arrived_fits, arrived_steps, arrived_amounts, arrived_lawful, gone_next, gone_fits, gone_steps, gone_amounts, gone_lawful}

module _ (f : Frame) (fr : IsFrame f) (s : State) (ok : IsLawful f s) (k : ℕ) (lt : k < f.workers) where
  -- after an open
  open_lawful : (l : Load) → (s.worker k).phase ≡ Carry l → IsLawful f (open_side k l s)
  unfolding open_side
  open_lawful l phase = opening_lawful {s = s} {k = k} {l = l}
      {w = record (s.worker k) { phase = Opened l; tally = stepped (s.worker k).tally }} (record {
        step = steps_here f s (open_side k l s) k _ ok lt refl refl;
        phase = phase;
        next_is = refl;
        pending_is = refl;
        phase_is = refl;
        fits_is = refl;
      })

  -- after a collect
  collect_lawful : (l : Load) → (s.worker k).phase ≡ Second l → IsLawful f (collect k l s)
  unfolding collect
  collect_lawful l phase = collecting_lawful {s = s} {k = k} {l = l}
      {w = record (s.worker k) {
        phase = Collecting l (held (s.place l.split (other l.side)) l.packet);
        tally = stepped (s.worker k).tally;
      }} (record {
        step = steps_here f s (collect k l s) k _ ok lt refl refl;
        phase = phase;
        next_is = refl;
        pending_is = refl;
        phase_is = refl;
        fits_is = refl;
      })

-- the packet that a worker makes of its own and the one that it found is its node's
join_is : (f : Frame) (s : ℕ) (d : Side) (own found : Packet) → own ≡ packet_at f s d →
    found ≡ packet_at f s (other d) →
    join s d own found ≡ join s Left (packet_at f s Left) (packet_at f s Right)
join_is f s Left own found a b = rw a (rw b refl)
join_is f s Right own found a b = rw a (rw b refl)

module _ (f : Frame) (fr : IsFrame f) (s : State) (ok : IsLawful f s) (k : ℕ) (lt : k < f.workers) where
  -- after an arrival
  arrive_lawful : (l : Load) → (s.worker k).phase ≡ Opened l → IsLawful f (arrive f k l s)
  unfolding arrive Carries
  arrive_lawful l phase =
      let w : Worker = s.worker k in
      let b : Bool = s.arrived l.split (other l.side) in
      let load : IsLoad f l = subst (Carries f s) phase (ok.workers k lt).carries in
      arriving_lawful {s = s} {k = k} {l = l} {w = arrived_worker f (s.worker k) l (s.arrived l.split (other l.side))}
      (record {
        step = steps_here f s (arrive f k l s) k _ ok lt refl (arrived_steps f w l b);
        phase = phase;
        next_is = arrived_next f w l b;
        after = arrived_amounts f w l b;
        worker_w = arrived_lawful f w l fr (arrive f k l s)
            (worker-same f s (arrive f k l s) w refl refl (ok.workers k lt)) load b;
        fits_is = arrived_fits f w l b;
      })

  -- after a leave
  leave_lawful : (l : Load) (found : Packet) → (s.worker k).phase ≡ Collecting l found →
      IsLawful f (leave f k l found s)
  unfolding leave Carries packet_at packet_below
  leave_lawful l found phase =
      let w : Worker = s.worker k in
      let right : IsFound f s l found = subst (Carries f s) phase (ok.workers k lt).carries in
      let p : Packet = join l.split l.side l.packet found in
      let made : p ≡ f.node_packet l.split =
      join_is f l.split l.side l.packet found right.own.packet right.theirs ∙ sym (fr.packet l.split right.own.node) in
      let a : Option Up = f.above_node l.split in
      leaving_lawful {s = s} {k = k} {l = l} {found = found}
      {w = go_up f (f.above_node l.split) (join l.split l.side l.packet found) (s.worker k)} (record {
        fr = fr;
        step = steps_here f s (leave f k l found s) k _ ok lt refl (gone_steps f w l a p);
        phase = phase;
        next_is = gone_next f w l a p;
        after = gone_amounts f w l a p;
        worker_w = gone_lawful f w l fr (leave f k l found s)
            (worker-same f s (leave f k l found s) w refl refl (ok.workers k lt)) a p
            (λ u h. record {
              node = fr.up_node l.split u right.own.node h;
              packet = made ∙ sym (ap (packet_below f) (fr.up_child l.split u right.own.node h));
            });
        fits_is = gone_fits f w l a p;
      })

  -- after a take
  take_lawful : (s.worker k).phase ≡ Looking → IsLawful f (take f k s)
  unfolding take Fits
  take_lawful phase =
      let w : Worker = s.worker k in
      let ps : List ℕ = if s.claimed (s.worker k).next then [] else f.batch (s.worker k).next in
      let looking : (w.pending ≡ []) × (w.next < f.batches) = subst (Fits f w) phase (ok.workers k lt).phase in
      let tally = resumed_tally f (w.next + 1) ps (stepped w.tally) in
      taking_lawful {s = s} {k = k} {ps = ps} {w = resume f ((s.worker k).next + 1) ps (stepped (s.worker k).tally)}
      (record {
        step = steps_here f s (take f k s) k _ ok lt refl (ap (λ t. t.steps) tally);
        fr = fr;
        phase = phase;
        ps_is = refl;
        next_is = resumed_next f (w.next + 1) ps (stepped w.tally);
        after = resumed_amounts f (w.next + 1) ps (stepped w.tally);
        worker_w = resume_lawful f fr (take f k s) (w.next + 1) ps (stepped w.tally) (omega (arith, looking.1))
            (λ j less. elim (cases_eq w.next j) [
              | inl z ↦ subst (λ j. put s.claimed w.next true j ≡ true) z (put-here s.claimed w.next true)
              | inr z ↦ put-true s.claimed w.next j ((ok.workers k lt).claimed j (omega arith))
            ])
            (elim (cases_Bool (s.claimed w.next)) [
              | inl z ↦ rw z (λ j d less. absurd (omega arith))
              | inr z ↦ rw z (fr.positions w.next looking.1)
            ]);
        fits_is = ap (λ t. t.fits) tally;
      })

  -- after the event of any phase
  event_in_lawful : (p : Phase) → (s.worker k).phase ≡ p → IsLawful f (event_in f k p s)
  unfolding event_in
  event_in_lawful Looking h = take_lawful h
  event_in_lawful (Carry l) h = open_lawful f fr s ok k lt l h
  event_in_lawful (Opened l) h = arrive_lawful l h
  event_in_lawful (Second l) h = collect_lawful f fr s ok k lt l h
  event_in_lawful (Collecting l found) h = leave_lawful l found h
  event_in_lawful Ended h = ok

  -- every event leads from a lawful state to a lawful one
  pub event_lawful : IsLawful f (event f k s)
  unfolding event
  event_lawful = event_in_lawful (s.worker k).phase refl
