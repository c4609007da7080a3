-- A state of the arrival machine. Public contracts cite it.
use Rattle.std.specs.Prelude.{ℕ, Bool, List, Option, Some, None}
use Rattle.arrival_core.specs.declared.packets.Packet.{Packet}
use Rattle.arrival_core.specs.declared.packets.Side.{Side}
use Rattle.arrival_core.specs.declared.packets.Phase.{Phase}
use Rattle.arrival_core.specs.declared.packets.Place.{Place}
use Rattle.arrival_core.specs.declared.packets.Place.TheVariants.{Nothing, Holds, Out}
use Rattle.arrival_core.specs.declared.packets.Tally.{Tally}

-- a worker: its next batch, the positions that it has yet to carry up, what it does next, and its counts so far
pub record Worker : Type 0 where
  pub next : ℕ
  pub pending : List ℕ
  pub phase : Phase
  pub tally : Tally

-- what all workers share, and the workers by number
pub record State : Type 0 where
  -- a claim bit for each batch
  pub claimed : ℕ → Bool
  -- seven bits for each inner node: three for each side, and one
  pub opened : ℕ → Side → Bool
  pub arrived : ℕ → Side → Bool
  pub collected : ℕ → Side → Bool
  pub returned : ℕ → Bool
  -- a place for each side of each inner node
  pub place : ℕ → Side → Place
  pub worker : ℕ → Worker

-- the packet that rests in a place
unfoldable pub resting_packet : Place → Option Packet
resting_packet Nothing = None
resting_packet (Holds p) = Some p
resting_packet (Out k) = None
