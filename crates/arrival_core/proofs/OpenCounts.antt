-- What an open changes: what each worker has and what each side counts.
use Rattle.std.proofs.Common.{◌≡◌, ℕ, ◌+◌, true, false, refl, ap, ◌∙◌, arith, subst}
use Rattle.arrival_core.specs.declared.packets.Side.{Side}
use Rattle.arrival_core.specs.declared.packets.Load.{Load}
use Rattle.arrival_core.specs.declared.packets.Phase.TheVariants.{Carry, Opened}
use Rattle.arrival_core.specs.declared.packets.Place.TheVariants.{Out}
use Rattle.arrival_core.specs.Sums.{bit}
use Rattle.arrival_core.specs.Frames.{Frame, live_at}
use Rattle.arrival_core.specs.States.{Worker, State}
use Rattle.arrival_core.specs.Events.{put, put_side}
use Rattle.arrival_core.specs.Lawful.{IsLoad, Carries}
use Rattle.arrival_core.specs.Counts.{at, over, has, times, carries, count_opened, count_met, count_collecting}
use Rattle.arrival_core.proofs.PutLaws.{bit-zero, at-here, put_side_bit}
use Rattle.arrival_core.proofs.CountLaws.{over_has_one, over_has, live_if_had, carried}
use Rattle.arrival_core.proofs.PhaseLaws.{when_carry, when_opened}
use Rattle.arrival_core.proofs.OneStep.{Amounts, Steps, amounts, change}

-- state n is s after worker k, now w, has opened a side for what it carries
pub record Opens (f : Frame) (s n : State) (k : ℕ) (l : Load) (w : Worker) : Type 0 where
  pub step : Steps f s n (record s {
    opened = put_side s.opened l.split l.side true;
    place = put_side s.place l.split l.side (Out k);
    worker = put s.worker k w;
  }) k w
  pub phase : (s.worker k).phase ≡ Carry l
  pub next_is : w.next ≡ (s.worker k).next
  pub pending_is : w.pending ≡ (s.worker k).pending
  pub phase_is : w.phase ≡ Opened l
  pub fits_is : w.tally.fits ≡ (s.worker k).tally.fits

module _ {f : Frame} {s n : State} {k : ℕ} {l : Load} {w : Worker} (x : Opens f s n k l w) where
  open x use {step, step.{ok, lt, opened, arrived, collected, returned, worker}, phase, pending_is, phase_is}

  -- what the worker carries is its child's packet
  pub load : IsLoad f l
  unfolding Carries
  load = subst (Carries f s) phase (ok.workers k lt).carries

  -- nobody has opened its side
  pub off : (bit (s.arrived l.split l.side) ≡ 0) × (bit (s.opened l.split l.side) ≡ 0)
      × (count_opened f s l.split l.side ≡ 0)
  off = carried f s ok l.split l.side load.node k lt
      ((when_carry (s.worker k).phase l l.split l.side phase).carries_is ∙ at-here l.split l.side)

  -- the side is not opened
  pub unopened : s.opened l.split l.side ≡ false
  unopened = bit-zero (s.opened l.split l.side) off.1

  -- the child there is live
  pub live : live_at f l.split l.side ≡ true
  live =
      let parts = over_has f s l.split l.side in
      let mine = over_has_one f s k (λ w. carries w.phase l.split l.side) lt in
      let one = (when_carry (s.worker k).phase l l.split l.side phase).carries_is in
      let here = at-here l.split l.side in
      live_if_had f s ok l.split l.side load.node (omega (arith, parts, mine, one, here))

  module _ (t : ℕ) (e : Side) where
    -- the worker carries the child before, and is behind the opening after
    pub before : Amounts f (s.worker k) t e (times f (s.worker k).pending t e + at l.split l.side t e + 0) 0 0 0
    before = amounts f (s.worker k) (s.worker k).pending t e _ _ _ _ refl (when_carry (s.worker k).phase l t e phase)

    -- what it has after
    pub after : Amounts f w t e (times f (s.worker k).pending t e + 0 + at l.split l.side t e)
        (at l.split l.side t e) 0 0
    after = amounts f w (s.worker k).pending t e _ _ _ _ pending_is (when_opened w.phase l t e phase_is)

    -- as much is had as before
    pub had : over f n (has f t e) ≡ over f s (has f t e)
    had = omega (arith, (change step before after).had)

    -- one side more is opened
    pub opened_now : bit (n.opened t e) ≡ bit (s.opened t e) + at l.split l.side t e
    opened_now = ap (λ g. bit (g t e)) opened ∙ put_side_bit s.opened l.split l.side t e unopened

    -- and one worker more is behind an opening
    pub count_now : count_opened f n t e ≡ count_opened f s t e + at l.split l.side t e
    count_now = omega (arith, (change step before after).opened)

    -- as many are behind a second arrival as before
    pub met_now : count_met f n t ≡ count_met f s t
    met_now = omega (arith, (change step before after).met)

    -- and as many collect
    pub collecting_now : count_collecting f n t ≡ count_collecting f s t
    collecting_now = omega (arith, (change step before after).collecting)
