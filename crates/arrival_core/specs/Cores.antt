-- What a contract sees of a `CoreState`: lists, what the machine is set to, and the state that the lists show.
-- Public contracts cite `setting_of`, `frame_of_core` and `state_of`, and no list by itself.
use Rattle.std.specs.Prelude.{ℕ, Bool, ◌≡◌, ◌≤◌, ◌-◌, List, length}
use Rattle.fixed_box.specs.declared.shapes.Box3.{Box3}
use Rattle.radix_tree.specs.Table.{Contents, IsTable}
use Rattle.arrival_core.specs.declared.packets.TheConstants.{MOST_WORKERS}
use Rattle.arrival_core.specs.declared.forks.Fork.{Fork}
use Rattle.arrival_core.specs.declared.forks.Climber.{Climber}
use Rattle.arrival_core.specs.declared.terrains.Terrain.{Terrain}
use Rattle.arrival_core.specs.Frames.{Frame}
use Rattle.arrival_core.specs.States.{State}
use Rattle.arrival_core.specs.Lawful.{IsLawful}
use Rattle.arrival_core.specs.Settings.{Setting, frame_of, batch_count}
use Rattle.arrival_core.specs.Tasks.{IsTask}
use Rattle.arrival_core.specs.Forks.{HasPart, climber_at, shown}

-- the tree, a box for each triangle, the live positions, the claim bits, the inner nodes by split, and the workers
pub record Core : Type 0 where
  pub tree : Contents
  pub boxes : List Box3
  pub live : List ℕ
  pub claimed : List Bool
  pub forks : List Fork
  pub climbers : List Climber

-- the lists of a machine over a terrain
abbrev pub core_over : Terrain → List Bool → List Fork → List Climber → Core
core_over g claimed forks climbers = record {
  tree = g.tree.now;
  boxes = g.boxes.now;
  live = g.live.now;
  claimed = claimed;
  forks = forks;
  climbers = climbers;
}

-- what the machine is set to
abbrev pub setting_of : Core → Setting
setting_of c = record { keys = c.tree.keys; boxes = c.boxes; live = c.live; workers = length c.climbers }

-- the tree and the batches that it works on
abbrev pub frame_of_core : Core → Frame
frame_of_core c = frame_of (setting_of c)

-- the state that the lists show
abbrev pub state_of : Core → State
state_of c = shown c.live c.claimed c.forks c.climbers

-- a lawful state over a task, in lists of the right lengths
pub record IsCore (c : Core) : Type 0 where
  pub table : IsTable c.tree
  pub task : IsTask (setting_of c)
  pub few : length c.climbers ≤ MOST_WORKERS
  pub claims : length c.claimed ≡ batch_count c.live
  pub nodes : length c.forks ≡ length c.tree.keys - 1
  pub parts : (j : ℕ) → HasPart (length c.live) (climber_at c.climbers j)
  pub lawful : IsLawful (frame_of_core c) (state_of c)
