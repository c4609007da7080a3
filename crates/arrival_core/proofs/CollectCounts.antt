-- What a collect changes: what each worker has and what each side and node counts.
use Rattle.std.proofs.Common.{◌≡◌, ◌≢◌, ℕ, ◌+◌, ◌<◌, true, refl, ap, ◌∙◌, arith}
use Rattle.std.specs.Prelude.{◌==◌}
use Rattle.arrival_core.specs.declared.packets.Side.{Side}
use Rattle.arrival_core.specs.declared.packets.Load.{Load}
use Rattle.arrival_core.specs.declared.packets.Phase.TheVariants.{Second, Collecting}
use Rattle.arrival_core.specs.declared.packets.Place.TheVariants.{Out}
use Rattle.arrival_core.specs.Sums.{bit}
use Rattle.arrival_core.specs.Frames.{Frame, packet_at, other}
use Rattle.arrival_core.specs.States.{Worker, State}
use Rattle.arrival_core.specs.Events.{put, put_side, held}
use Rattle.arrival_core.specs.Lawful.{IsLoad}
use Rattle.arrival_core.specs.Counts.{at, over, has, times, collecting_at, count_opened, count_met, count_collecting}
use Rattle.arrival_core.proofs.PutLaws.{bit-zero, put_side_bit}
use Rattle.arrival_core.proofs.CountLaws.{IsMetAlone, collecting_mine}
use Rattle.arrival_core.proofs.PhaseLaws.{when_second, when_collecting}
use Rattle.arrival_core.proofs.PlaceLaws.{second_load, second_alone, none_collects, none_collected, met_holds}
use Rattle.arrival_core.proofs.OneStep.{Amounts, Steps, amounts, change}

-- state n is s after worker k, now w, has collected what the other side holds
pub record Collects (f : Frame) (s n : State) (k : ℕ) (l : Load) (w : Worker) : Type 0 where
  pub step : Steps f s n (record s {
    collected = put_side s.collected l.split (other l.side) true;
    place = put_side s.place l.split (other l.side) (Out k);
    worker = put s.worker k w;
  }) k w
  pub phase : (s.worker k).phase ≡ Second l
  pub next_is : w.next ≡ (s.worker k).next
  pub pending_is : w.pending ≡ (s.worker k).pending
  pub phase_is : w.phase ≡ Collecting l (held (s.place l.split (other l.side)) l.packet)
  pub fits_is : w.tally.fits ≡ (s.worker k).tally.fits

module _ {f : Frame} {s n : State} {k : ℕ} {l : Load} {w : Worker} (x : Collects f s n k l w) where
  open x use {step, step.{ok, lt, collected}, phase, pending_is, phase_is}

  -- what the worker carries is its child's packet
  pub load : IsLoad f l
  load = second_load f s ok k lt l phase

  -- it alone is behind the second arrival
  pub alone : IsMetAlone f s l.split
  alone = second_alone f s ok k lt l phase

  module _ (t : ℕ) (e : Side) where
    -- the worker is second at its node before, and collects there after
    pub before : Amounts f (s.worker k) t e (times f (s.worker k).pending t e + 0 + 0) 0 (bit (l.split == t)) 0
    before = amounts f (s.worker k) (s.worker k).pending t e _ _ _ _ refl (when_second (s.worker k).phase l t e phase)

    -- what it has after
    pub after : Amounts f w t e (times f (s.worker k).pending t e + 0 + 0) 0 0 (bit (l.split == t))
    after = amounts f w (s.worker k).pending t e _ _ _ _ pending_is
        (when_collecting w.phase l (held (s.place l.split (other l.side)) l.packet) t e phase_is)

    -- as much is had as before
    pub had : over f n (has f t e) ≡ over f s (has f t e)
    had = omega (arith, (change step before after).had)

    -- as many are behind an opening
    pub count_now : count_opened f n t e ≡ count_opened f s t e
    count_now = omega (arith, (change step before after).opened)

    -- and as many behind a second arrival
    pub met_now : count_met f n t ≡ count_met f s t
    met_now = omega (arith, (change step before after).met)

    -- one more collects
    pub collecting_now : count_collecting f n t ≡ count_collecting f s t + bit (l.split == t)
    collecting_now = omega (arith, (change step before after).collecting)

  -- no side of the node is collected
  pub uncollected : (e : Side) → bit (s.collected l.split e) ≡ 0
  uncollected e = none_collected f s ok k lt l phase e

  -- the other side is collected from now on
  pub collected_now : (t : ℕ) (e : Side) → bit (n.collected t e) ≡ bit (s.collected t e) + at l.split (other l.side) t e
  collected_now t e = ap (λ g. bit (g t e)) collected
      ∙ put_side_bit s.collected l.split (other l.side) t e (bit-zero _ (uncollected (other l.side)))

  -- no other worker has to do with the node
  pub others : (j : ℕ) → j < f.workers → k ≢ j → collecting_at (s.worker j).phase l.split ≡ 0
  others j lj ne = omega (arith, collecting_mine f s j l.split lj, none_collects f s ok k lt l phase)

  -- the packet that stood there is the other child's
  pub found_is : held (s.place l.split (other l.side)) l.packet ≡ packet_at f l.split (other l.side)
  found_is = ap (λ p. held p l.packet) (met_holds f s ok k lt l phase)
