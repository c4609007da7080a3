-- Which nodes wait for a worker, so that a stopped worker keeps them from being fitted. Public contracts cite it.
use Rattle.std.specs.Prelude.{ℕ, ◌≡◌, ◌<◌, ◌+◌, ◌⊎◌, not, Some}
use Rattle.arrival_core.specs.declared.packets.Up.{Up}
use Rattle.arrival_core.specs.declared.packets.Side.{Side}
use Rattle.arrival_core.specs.Sums.{bit, sum_below}
use Rattle.arrival_core.specs.Frames.{Frame}
use Rattle.arrival_core.specs.States.{Worker, State}
use Rattle.arrival_core.specs.Counts.{over, has, second_at, collecting_at, unclaimed}

-- how often a worker holds the child on a side: what it has, and both children of a node that it came second at
unfoldable pub holds : Frame → ℕ → Side → Worker → ℕ
holds f s d w = has f s d w + second_at w.phase s + collecting_at w.phase s

-- node t is above the child on side d of node s: t is s, or above s
pub data IsAbove (f : Frame) : ℕ → ℕ → Side → Type 0 where
  here : {t : ℕ} {d : Side} → IsAbove f t t d
  up : {t s : ℕ} {d : Side} (u : Up) → f.above_node s ≡ Some u → IsAbove f t u.split u.side → IsAbove f t s d

-- node t is above a child that some worker holds, or above a leaf of a batch that is not claimed
pub record Waits (f : Frame) (s : State) (t : ℕ) : Type 0 where
  pub split : ℕ
  pub side : Side
  pub node : split < f.nodes
  pub is_above : IsAbove f t split side
  pub held : (0 < over f s (holds f split side)) ⊎ (0 < unclaimed f s split side)

-- how many inner nodes are not returned
unfoldable pub unreturned_count : Frame → State → ℕ
unreturned_count f s = sum_below f.nodes (λ t. bit (not (s.returned t)))
