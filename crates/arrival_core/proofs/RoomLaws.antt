-- No tally comes near its bound, and what a lawful state says of a worker's next event.
use Rattle.std.proofs.Common.{◌≡◌, ℕ, ◌+◌, ◌*◌, ◌<◌, ◌≤◌, Bool, true, false, sym, ap, ◌∙◌, arith, subst, List}
use Rattle.arrival_core.specs.declared.packets.Packet.{Packet}
use Rattle.arrival_core.specs.declared.packets.Side.TheVariants.{Left, Right}
use Rattle.arrival_core.specs.declared.packets.Load.{Load}
use Rattle.arrival_core.specs.declared.packets.Phase.{Phase}
use Rattle.arrival_core.specs.declared.packets.Phase.TheVariants.{Looking, Carry, Opened, Second, Collecting}
use Rattle.arrival_core.specs.Sums.{bit, sum_below}
use Rattle.arrival_core.specs.Frames.{Frame, live_at}
use Rattle.arrival_core.specs.States.{State}
use Rattle.arrival_core.specs.Events.{event_in, event}
use Rattle.arrival_core.specs.Lawful.{IsLawful, Fits, Carries}
use Rattle.arrival_core.specs.Counts.{over, steps_at, steps_of_side, steps_of_node}
use Rattle.arrival_core.proofs.SumLaws.{sum_le}
use Rattle.arrival_core.proofs.PutLaws.{bit_le}
use Rattle.arrival_core.proofs.CountLaws.{over_has_one}
use Rattle.std.specs.Prelude.{◌^◌, length}
use Rattle.std.proofs.Math.Nat.{mul-le-mul}
use Rattle.arrival_core.specs.declared.packets.TheConstants.{MOST_WORKERS}
use Rattle.arrival_core.specs.Settings.{frame_of, batch_count}
use Rattle.arrival_core.specs.Forks.{climber_at, shown, MayStep}
use Rattle.arrival_core.specs.declared.forks.Climber.{Climber}
use Rattle.arrival_core.specs.declared.forks.Fork.{Fork}
use Rattle.arrival_core.specs.Cores.{Core, IsCore, frame_of_core}
use Rattle.arrival_core.proofs.SumLaws.{sum_of_same}
use Rattle.arrival_core.proofs.TerrainLaws.{rising_short}

-- at most two events
live_twice : (a : Bool) (b c : Bool) → bit a * (bit b + bit c) ≤ 2
live_twice true b c = omega (arith, bit_le b, bit_le c)
live_twice false b c = omega arith

-- at most three
live_thrice : (a : Bool) (b c d : Bool) → bit a * (bit b + bit c + bit d) ≤ 3
live_thrice true b c d = omega (arith, bit_le b, bit_le c, bit_le d)
live_thrice false b c d = omega arith

-- at most one fit
live_once : (a b : Bool) → bit a * bit b ≤ 1
live_once true b = omega (arith, bit_le b)
live_once false b = omega arith

module _ (f : Frame) (s : State) (ok : IsLawful f s) (k : ℕ) (lt : k < f.workers) where
  -- at most seven events at a node and its sides
  steps_at_le : (t : ℕ) → steps_at f s t ≤ 7
  unfolding steps_at steps_of_side steps_of_node
  steps_at_le t = omega (
    arith,
    live_twice (live_at f t Left) (s.opened t Left) (s.arrived t Left),
    live_twice (live_at f t Right) (s.opened t Right) (s.arrived t Right),
    live_thrice (f.live_node t) (s.collected t Left) (s.collected t Right) (s.returned t),
  )

  -- so many in all
  all_steps : sum_below f.nodes (steps_at f s) ≤ f.nodes * 7
  all_steps =
      let most = sum_le f.nodes (steps_at f s) (λ t. 7) (λ t l. steps_at_le t) in
      omega (arith, most, sum_of_same f.nodes 7)

  -- so many fits in all
  all_fits : sum_below f.nodes (λ t. bit (f.live_node t) * bit (s.returned t)) ≤ f.nodes * 1
  all_fits =
      let most = sum_le f.nodes (λ t. bit (f.live_node t) * bit (s.returned t)) (λ t. 1)
      (λ t l. live_once (f.live_node t) (s.returned t)) in
      omega (arith, most, sum_of_same f.nodes 1)

  -- and takes
  nexts : over f s (λ w. w.next) ≤ f.workers * f.batches
  unfolding over
  nexts =
      let most = sum_le f.workers (λ i. (s.worker i).next) (λ i. f.batches) (λ i l. (ok.workers i l).next) in
      omega (arith, most, sum_of_same f.workers f.batches)

  -- the steps of a worker stay below 2 ^ 32
  pub steps_low : f.workers ≤ MOST_WORKERS → f.batches ≤ 2 ^ 20 → f.nodes ≤ 2 ^ 20 → (s.worker k).tally.steps < 2 ^ 32
  steps_low few short low =
      let mine = over_has_one f s k (λ w. w.tally.steps) lt in
      let product : f.workers * f.batches ≤ MOST_WORKERS * 2 ^ 20 = mul-le-mul few short in
      omega (arith, mine, ok.steps, nexts, all_steps, product)

  -- and its fits
  pub fits_low : f.nodes ≤ 2 ^ 20 → (s.worker k).tally.fits < 2 ^ 32
  fits_low low =
      let mine = over_has_one f s k (λ w. w.tally.fits) lt in
      omega (arith, mine, ok.fits, all_fits)

  -- so one more stays below their type
  pub steps_small : f.workers ≤ MOST_WORKERS → f.batches ≤ 2 ^ 20 → f.nodes ≤ 2 ^ 20 →
      (s.worker k).tally.steps + 1 < 2 ^ 64
  steps_small few short low = omega (arith, steps_low few short low)

  -- and one more fit
  pub fits_small : f.nodes ≤ 2 ^ 20 → (s.worker k).tally.fits + 1 < 2 ^ 64
  fits_small low = omega (arith, fits_low low)

  -- what its phase says
  pub next_small : (s.worker k).phase ≡ Looking → (s.worker k).next < f.batches
  unfolding Fits
  next_small h = (subst (Fits f (s.worker k)) h (ok.workers k lt).phase).1

  -- a worker carries to a node of the tree
  pub carry_node : (l : Load) → (s.worker k).phase ≡ Carry l → l.split < f.nodes
  unfolding Carries
  carry_node l h = (subst (Carries f s) h (ok.workers k lt).carries).node

  -- it opens at one
  pub opened_node : (l : Load) → (s.worker k).phase ≡ Opened l → l.split < f.nodes
  unfolding Carries
  opened_node l h = (subst (Carries f s) h (ok.workers k lt).carries).node

  -- it is second at one
  pub second_node : (l : Load) → (s.worker k).phase ≡ Second l → l.split < f.nodes
  unfolding Carries
  second_node l h = (subst (Carries f s) h (ok.workers k lt).carries).node

  -- it collects at one
  pub collecting_node : (l : Load) (found : Packet) → (s.worker k).phase ≡ Collecting l found → l.split < f.nodes
  unfolding Carries
  collecting_node l found h = (subst (Carries f s) h (ok.workers k lt).carries).own.node

-- a climber that was read is in the phase that it was read in
phase_read : {x y : Climber} {p : Phase} → x ≡ y → x.phase ≡ p → y.phase ≡ p
phase_read e h = ap (λ z. z.phase) (sym e) ∙ h

-- the event of a worker whose climber was read in a phase leads to the state that the event of the phase leads to
pub event_read : (f : Frame) (k : ℕ) (live : List ℕ) (claimed : List Bool) (forks : List Fork) (climbers : List Climber)
    (x : Climber) (p : Phase) (n : State) → x ≡ climber_at climbers k → x.phase ≡ p →
    n ≡ event_in f k p (shown live claimed forks climbers) → n ≡ event f k (shown live claimed forks climbers)
unfolding event
event_read f k live claimed forks climbers x p n e h led =
    led ∙ sym (ap (λ q. event_in f k q (shown live claimed forks climbers)) (phase_read e h))

-- the same, of lists that hold a lawful state
module _ {c : Core} (ok : IsCore c) (k : ℕ) (lt : k < length c.climbers) where
  -- the worker is one of the frame's
  one_of : k < (frame_of_core c).workers
  unfolding frame_of
  one_of = lt

  -- its tally has room for an event
  pub may_step : MayStep (climber_at c.climbers k)
  unfolding frame_of
  may_step =
      let short = rising_short c.live _ ok.task.rising ok.task.within in
      record {
        steps = steps_small _ _ ok.lawful k one_of ok.few (omega (arith, short, ok.table.lawful.few))
            (omega (arith, ok.table.lawful.few));
        fits = fits_small _ _ ok.lawful k one_of (omega (arith, ok.table.lawful.few));
      }

  -- a worker that looks has a batch before it
  pub next_below : {x : Climber} → x ≡ climber_at c.climbers k → x.phase ≡ Looking →
      (climber_at c.climbers k).next < batch_count c.live
  unfolding frame_of
  next_below e h = next_small _ _ ok.lawful k one_of (phase_read e h)

  -- a worker carries to a node
  pub carry_below : {x : Climber} → x ≡ climber_at c.climbers k → (l : Load) → x.phase ≡ Carry l →
      l.split < length c.forks
  unfolding frame_of
  carry_below e l h = omega (arith, carry_node _ _ ok.lawful k one_of l (phase_read e h), ok.nodes)

  -- it opens at one
  pub opened_below : {x : Climber} → x ≡ climber_at c.climbers k → (l : Load) → x.phase ≡ Opened l →
      l.split < length c.forks
  unfolding frame_of
  opened_below e l h = omega (arith, opened_node _ _ ok.lawful k one_of l (phase_read e h), ok.nodes)

  -- it is second at one
  pub second_below : {x : Climber} → x ≡ climber_at c.climbers k → (l : Load) → x.phase ≡ Second l →
      l.split < length c.forks
  unfolding frame_of
  second_below e l h = omega (arith, second_node _ _ ok.lawful k one_of l (phase_read e h), ok.nodes)

  -- it collects at one
  pub collecting_below : {x : Climber} → x ≡ climber_at c.climbers k → (l : Load) (found : Packet) →
      x.phase ≡ Collecting l found → l.split < length c.forks
  unfolding frame_of
  collecting_below e l found h =
      omega (arith, collecting_node _ _ ok.lawful k one_of l found (phase_read e h), ok.nodes)
