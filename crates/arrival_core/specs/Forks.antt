-- How lists of forks and climbers show a state of the machine. Public contracts cite it through `state_of`.
use Rattle.std.specs.Prelude.{ℕ, Bool, false, ◌-◌, ◌+◌, ◌^◌, ◌<◌, ◌≤◌, List, slice_index_or, take, drop}
use Rattle.arrival_core.specs.declared.packets.Side.{Side}
use Rattle.arrival_core.specs.declared.packets.Side.TheVariants.{Left, Right}
use Rattle.arrival_core.specs.declared.packets.Phase.TheVariants.{Ended}
use Rattle.arrival_core.specs.declared.packets.Place.TheVariants.{Nothing}
use Rattle.arrival_core.specs.declared.forks.Branch.{Branch}
use Rattle.arrival_core.specs.declared.forks.Fork.{Fork}
use Rattle.arrival_core.specs.declared.forks.Climber.{Climber}
use Rattle.arrival_core.specs.States.{Worker, State}

unfoldable pub no_branch : Branch
no_branch = record { opened = false; arrived = false; collected = false; place = Nothing }

-- the node with that split
unfoldable pub fork_at : List Fork → ℕ → Fork
fork_at forks t = slice_index_or forks t (record { left = no_branch; right = no_branch; returned = false })

-- a side of a node
abbrev pub branch_of : Fork → Side → Branch
branch_of c Left = c.left
branch_of c Right = c.right

-- the node with another side
abbrev pub with_branch : Fork → Side → Branch → Fork
with_branch c Left x = record c { left = x }
with_branch c Right x = record c { right = x }

-- the climber of that number
unfoldable pub climber_at : List Climber → ℕ → Climber
climber_at climbers k = slice_index_or climbers k
    (record { next = 0; from = 0; to = 0; phase = Ended; tally = record { fits = 0; steps = 0 } })

-- a climber as a worker: its pending positions are a part of the live ones
abbrev pub worker_of : List ℕ → Climber → Worker
worker_of live c = record {
  next = c.next;
  pending = take (c.to - c.from) (drop c.from live);
  phase = c.phase;
  tally = c.tally;
}

-- its pending positions are a part of so many live ones
pub record HasPart (n : ℕ) (c : Climber) : Type 0 where
  pub order : c.from ≤ c.to
  pub within : c.to ≤ n

-- its tally has room for an event
pub record MayStep (c : Climber) : Type 0 where
  pub steps : c.tally.steps + 1 < 2 ^ 64
  pub fits : c.tally.fits + 1 < 2 ^ 64

-- whether the batch of that number is claimed
unfoldable pub claimed_at : List Bool → ℕ → Bool
claimed_at claimed j = slice_index_or claimed j false

-- the state that the lists show
abbrev pub shown : List ℕ → List Bool → List Fork → List Climber → State
shown live claimed forks climbers = record {
  claimed = claimed_at claimed;
  opened = λ t d. (branch_of (fork_at forks t) d).opened;
  arrived = λ t d. (branch_of (fork_at forks t) d).arrived;
  collected = λ t d. (branch_of (fork_at forks t) d).collected;
  returned = λ t. (fork_at forks t).returned;
  place = λ t d. (branch_of (fork_at forks t) d).place;
  worker = λ k. worker_of live (climber_at climbers k);
}
