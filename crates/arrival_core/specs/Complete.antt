-- What a lawful state is when all workers have ended. Public contracts cite it.
use Rattle.std.specs.Prelude.{ℕ, ◌≡◌, ◌<◌, ◌+◌, ◌*◌, true}
use Rattle.arrival_core.specs.declared.packets.Side.{Side}
use Rattle.arrival_core.specs.declared.packets.Side.TheVariants.{Left, Right}
use Rattle.arrival_core.specs.declared.packets.Phase.TheVariants.{Ended}
use Rattle.arrival_core.specs.declared.packets.Place.TheVariants.{Holds}
use Rattle.arrival_core.specs.Sums.{bit, sum_below}
use Rattle.arrival_core.specs.Frames.{Frame, live_at, packet_at}
use Rattle.arrival_core.specs.States.{State}
use Rattle.arrival_core.specs.Counts.{over}

-- how many children are live
unfoldable pub live_children : Frame → ℕ
live_children f = sum_below f.nodes (λ t. bit (live_at f t Left) + bit (live_at f t Right))

-- how many inner nodes are live
unfoldable pub live_nodes : Frame → ℕ
live_nodes f = sum_below f.nodes (λ t. bit (f.live_node t))

-- all workers have ended
pub record HaveEnded (f : Frame) (s : State) : Type 0 where
  pub each : (k : ℕ) → k < f.workers → (s.worker k).phase ≡ Ended

-- every node is returned, every place holds its child's packet, and the tallies are exact
pub record IsComplete (f : Frame) (s : State) : Type 0 where
  pub returned : (t : ℕ) → t < f.nodes → s.returned t ≡ true
  pub places : (t : ℕ) (d : Side) → t < f.nodes → s.place t d ≡ Holds (packet_at f t d)
  pub fits : over f s (λ w. w.tally.fits) ≡ live_nodes f
  pub steps : over f s (λ w. w.tally.steps) ≡ f.workers * f.batches + 2 * live_children f + 2 * live_nodes f
