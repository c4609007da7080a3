-- The start of the arrival machine: a relation, since a state says more than a machine has. Public contracts cite it.
use Rattle.std.specs.Prelude.{ℕ, false, ◌≡◌, ◌<◌, not, if◌then◌else◌, []}
use Rattle.arrival_core.specs.declared.packets.Side.{Side}
use Rattle.arrival_core.specs.declared.packets.Phase.TheVariants.{Looking}
use Rattle.arrival_core.specs.declared.packets.Place.TheVariants.{Nothing, Holds}
use Rattle.arrival_core.specs.Frames.{Frame, live_at, packet_at}
use Rattle.arrival_core.specs.States.{Worker, State}

-- a worker that has not begun
unfoldable pub fresh : Worker
fresh = record { next = 0; pending = []; phase = Looking; tally = record { fits = 0; steps = 0 } }

-- no batch is claimed and no worker has begun; a child that is not live has arrived and its packet stands in its place;
-- a node without a live child is returned
pub record IsStart (f : Frame) (s : State) : Type 0 where
  pub claimed : (j : ℕ) → j < f.batches → s.claimed j ≡ false
  pub opened : (t : ℕ) (d : Side) → t < f.nodes → s.opened t d ≡ not (live_at f t d)
  pub arrived : (t : ℕ) (d : Side) → t < f.nodes → s.arrived t d ≡ not (live_at f t d)
  pub collected : (t : ℕ) (d : Side) → t < f.nodes → s.collected t d ≡ false
  pub returned : (t : ℕ) → t < f.nodes → s.returned t ≡ not (f.live_node t)
  pub place : (t : ℕ) (d : Side) → t < f.nodes →
      s.place t d ≡ (if live_at f t d then Nothing else Holds (packet_at f t d))
  pub workers : (k : ℕ) → k < f.workers → s.worker k ≡ fresh
