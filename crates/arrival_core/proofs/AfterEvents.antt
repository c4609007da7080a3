-- A worker after an arrival, and after it has left a node: what it has and what it counts for.
use Rattle.std.proofs.Common.{◌≡◌, ℕ, ◌+◌, ◌*◌, Bool, true, false, refl, ap, arith}
use Rattle.std.specs.Prelude.{◌==◌, if◌then◌else◌, Option, Some, None}
use Rattle.arrival_core.specs.declared.packets.Packet.{Packet}
use Rattle.arrival_core.specs.declared.packets.Side.{Side}
use Rattle.arrival_core.specs.declared.packets.Load.{Load}
use Rattle.arrival_core.specs.declared.packets.Phase.TheVariants.{Second}
use Rattle.arrival_core.specs.Sums.{bit}
use Rattle.arrival_core.specs.declared.packets.Up.{Up}
use Rattle.arrival_core.specs.Frames.{Frame}
use Rattle.arrival_core.specs.FrameLaws.{IsFrame}
use Rattle.arrival_core.specs.States.{Worker, State}
use Rattle.arrival_core.specs.Events.{resume, stepped, fitted, go_up}
use Rattle.arrival_core.specs.Lawful.{IsLawfulWorker, IsLoad, Fits, Carries}
use Rattle.arrival_core.specs.Counts.{has, times, carries, opened_at, second_at, collecting_at}
use Rattle.arrival_core.proofs.PhaseLaws.{resumed_next, resumed_tally}
use Rattle.arrival_core.proofs.OneStep.{Amounts, resumed_amounts}
use Rattle.arrival_core.proofs.RuleOfNext.{resume_lawful}
use Rattle.arrival_core.proofs.LeaveCounts.{up_at}

-- the worker after an arrival
abbrev pub arrived_worker : Frame → Worker → Load → Bool → Worker
arrived_worker f w l b = if b
    then record w { phase = Second l; tally = stepped w.tally }
    else resume f w.next w.pending (stepped w.tally)

module _ (f : Frame) (w : Worker) (l : Load) where
  -- its next batch
  pub arrived_next : (b : Bool) → (arrived_worker f w l b).next ≡ w.next
  arrived_next true = refl
  arrived_next false = resumed_next f w.next w.pending (stepped w.tally)

  -- its fits
  pub arrived_fits : (b : Bool) → (arrived_worker f w l b).tally.fits ≡ w.tally.fits
  arrived_fits true = refl
  arrived_fits false = ap (λ t. t.fits) (resumed_tally f w.next w.pending (stepped w.tally))

  -- its steps
  pub arrived_steps : (b : Bool) → (arrived_worker f w l b).tally.steps ≡ w.tally.steps + 1
  arrived_steps true = refl
  arrived_steps false = ap (λ t. t.steps) (resumed_tally f w.next w.pending (stepped w.tally))

  -- what it has and counts for: it is second where the other side had arrived
  pub arrived_amounts : (b : Bool) (t : ℕ) (e : Side) →
      Amounts f (arrived_worker f w l b) t e (times f w.pending t e) 0 (bit (l.split == t) * bit b) 0
  unfolding has carries opened_at second_at collecting_at
  arrived_amounts true t e =
      record { had_is = omega arith; opened_is = refl; second_is = omega arith; collecting_is = refl }
  arrived_amounts false t e =
      let c = resumed_amounts f w.next w.pending (stepped w.tally) t e in
      record {
        had_is = c.had_is;
        opened_is = c.opened_is;
        second_is = omega (arith, c.second_is);
        collecting_is = c.collecting_is;
      }

  -- it is lawful
  pub arrived_lawful : IsFrame f → (n : State) → IsLawfulWorker f n w → IsLoad f l → (b : Bool) →
      IsLawfulWorker f n (arrived_worker f w l b)
  unfolding Fits Carries
  arrived_lawful fr n old load true = record {
    next = old.next;
    claimed = old.claimed;
    positions = old.positions;
    phase = tt;
    carries = load;
  }
  arrived_lawful fr n old load false =
      resume_lawful f fr n w.next w.pending (stepped w.tally) old.next old.claimed old.positions

  -- and after leaving a node
  pub gone_next : (a : Option Up) (p : Packet) → (go_up f a p w).next ≡ w.next
  gone_next None p = resumed_next f w.next w.pending (fitted w.tally)
  gone_next (Some u) p = refl

  -- its fits
  pub gone_fits : (a : Option Up) (p : Packet) → (go_up f a p w).tally.fits ≡ w.tally.fits + 1
  gone_fits None p = ap (λ t. t.fits) (resumed_tally f w.next w.pending (fitted w.tally))
  gone_fits (Some u) p = refl

  -- its steps
  pub gone_steps : (a : Option Up) (p : Packet) → (go_up f a p w).tally.steps ≡ w.tally.steps + 1
  gone_steps None p = ap (λ t. t.steps) (resumed_tally f w.next w.pending (fitted w.tally))
  gone_steps (Some u) p = refl

  -- what it has and counts for: one more, above the node
  pub gone_amounts : (a : Option Up) (p : Packet) (t : ℕ) (e : Side) →
      Amounts f (go_up f a p w) t e (times f w.pending t e + up_at a t e) 0 0 0
  unfolding has carries opened_at second_at collecting_at up_at
  gone_amounts None p t e =
      let c = resumed_amounts f w.next w.pending (fitted w.tally) t e in
      record {
        had_is = omega (arith, c.had_is);
        opened_is = c.opened_is;
        second_is = c.second_is;
        collecting_is = c.collecting_is;
      }
  gone_amounts (Some u) p t e =
      record { had_is = omega arith; opened_is = refl; second_is = refl; collecting_is = refl }

  -- it is lawful
  pub gone_lawful : IsFrame f → (n : State) → IsLawfulWorker f n w → (a : Option Up) (p : Packet) →
      ((u : Up) → a ≡ Some u → IsLoad f (record { split = u.split; side = u.side; packet = p })) →
      IsLawfulWorker f n (go_up f a p w)
  unfolding Fits Carries
  gone_lawful fr n old None p load =
      resume_lawful f fr n w.next w.pending (fitted w.tally) old.next old.claimed old.positions
  gone_lawful fr n old (Some u) p load = record {
    next = old.next;
    claimed = old.claimed;
    positions = old.positions;
    phase = tt;
    carries = load u refl;
  }
