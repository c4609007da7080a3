-- What an arrival changes: what each worker has and what each side counts.
use Rattle.std.proofs.Common.{◌≡◌, ℕ, ◌+◌, ◌*◌, Bool, true, false, refl, ap, ◌∙◌, arith, subst}
use Rattle.std.specs.Prelude.{◌==◌, ◌&&◌}
use Rattle.arrival_core.specs.declared.packets.Side.{Side}
use Rattle.arrival_core.specs.declared.packets.Side.TheVariants.{Left, Right}
use Rattle.arrival_core.specs.declared.packets.Load.{Load}
use Rattle.arrival_core.specs.declared.packets.Phase.TheVariants.{Opened}
use Rattle.arrival_core.specs.declared.packets.Place.TheVariants.{Holds}
use Rattle.arrival_core.specs.Sums.{bit}
use Rattle.arrival_core.specs.Frames.{Frame, live_at, other}
use Rattle.arrival_core.specs.States.{Worker, State}
use Rattle.arrival_core.specs.Events.{put, put_side}
use Rattle.arrival_core.specs.Lawful.{IsLawfulWorker, IsLoad, Carries}
use Rattle.arrival_core.specs.Counts.{at, over, has, times, count_opened, count_met, count_collecting}
use Rattle.arrival_core.proofs.PutLaws.{bit-zero, bit-true, bit-false, at-here, put_side_bit}
use Rattle.arrival_core.proofs.CountLaws.{over_has, bit-and, live_if_had, opened_by}
use Rattle.arrival_core.proofs.PhaseLaws.{when_opened}
use Rattle.arrival_core.proofs.OneStep.{Amounts, Steps, amounts, change}

-- both sides have arrived: what one more arrival changes
pub both_now : (d : Side) (x y : Side → Bool) → x d ≡ false → y d ≡ true → y (other d) ≡ x (other d) →
    bit (y Left && y Right) ≡ bit (x Left && x Right) + bit (x (other d))
both_now Left x y off on rest = rw off (rw on (rw rest (omega arith)))
both_now Right x y off on rest =
    let a = bit-and (x Left) (x Right) in
    let b = bit-and (y Left) (y Right) in
    let c = bit-false off in
    let o = bit-true on in
    rw a (rw b (rw c (rw o (rw rest (omega arith)))))

-- state n is s after worker k, now w, has arrived with what it carries
pub record Arrives (f : Frame) (s n : State) (k : ℕ) (l : Load) (w : Worker) : Type 0 where
  pub step : Steps f s n (record s {
    arrived = put_side s.arrived l.split l.side true;
    place = put_side s.place l.split l.side (Holds l.packet);
    worker = put s.worker k w;
  }) k w
  pub phase : (s.worker k).phase ≡ Opened l
  pub next_is : w.next ≡ (s.worker k).next
  -- the other side's bit decides whether it is second from now on
  pub after : (t : ℕ) (e : Side) →
      Amounts f w t e (times f (s.worker k).pending t e) 0 (bit (l.split == t) * bit (s.arrived l.split (other l.side))) 0
  pub worker_w : IsLawfulWorker f n w
  pub fits_is : w.tally.fits ≡ (s.worker k).tally.fits

module _ {f : Frame} {s n : State} {k : ℕ} {l : Load} {w : Worker} (x : Arrives f s n k l w) where
  open x use {step, step.{ok, lt, arrived}, phase, after}

  -- what the worker carries is its child's packet
  pub load : IsLoad f l
  unfolding Carries
  load = subst (Carries f s) phase (ok.workers k lt).carries

  -- the worker alone is behind the opening of its side, which has not arrived
  pub held_open : (bit (s.arrived l.split l.side) ≡ 0) × (bit (s.opened l.split l.side) ≡ 1)
      × (count_opened f s l.split l.side ≡ 1)
  held_open = opened_by f s ok l.split l.side load.node k lt
      ((when_opened (s.worker k).phase l l.split l.side phase).opened_is ∙ at-here l.split l.side)

  -- its side has not arrived
  pub off : s.arrived l.split l.side ≡ false
  off = bit-zero (s.arrived l.split l.side) held_open.0

  -- the child there is live
  pub live : live_at f l.split l.side ≡ true
  live =
      let parts = over_has f s l.split l.side in
      live_if_had f s ok l.split l.side load.node (omega (arith, parts, held_open.2))

  module _ (t : ℕ) (e : Side) where
    -- the worker is behind the opening before
    pub before : Amounts f (s.worker k) t e (times f (s.worker k).pending t e + 0 + at l.split l.side t e)
        (at l.split l.side t e) 0 0
    before = amounts f (s.worker k) (s.worker k).pending t e _ _ _ _ refl (when_opened (s.worker k).phase l t e phase)

    -- one child less is had
    pub had : over f n (has f t e) + at l.split l.side t e ≡ over f s (has f t e)
    had = omega (arith, (change step before (after t e)).had)

    -- one side more has arrived
    pub arrived_now : bit (n.arrived t e) ≡ bit (s.arrived t e) + at l.split l.side t e
    arrived_now = ap (λ g. bit (g t e)) arrived ∙ put_side_bit s.arrived l.split l.side t e off

    -- and one worker less is behind an opening
    pub count_now : count_opened f n t e + at l.split l.side t e ≡ count_opened f s t e
    count_now = omega (arith, (change step before (after t e)).opened)

    -- one more is behind the second arrival, where the other side had arrived
    pub met_now : count_met f n t
        ≡ count_met f s t + bit (l.split == t) * bit (s.arrived l.split (other l.side))
    met_now = omega (arith, (change step before (after t e)).met)

    -- as many collect as before
    pub collecting_now : count_collecting f n t ≡ count_collecting f s t
    collecting_now = omega (arith, (change step before (after t e)).collecting)
