-- What lawful states rule out, told of workers and places. Public contracts cite it.
use Rattle.std.specs.Prelude.{ℕ, true, false, ◌≡◌, ◌<◌}
use Rattle.arrival_core.specs.declared.packets.Side.{Side}
use Rattle.arrival_core.specs.Frames.{Frame}
use Rattle.arrival_core.specs.States.{State}
use Rattle.arrival_core.specs.Counts.{turn}

-- worker k holds the place of a side: it is behind the opening of that side, or collects from there
abbrev pub HoldsPlace : State → ℕ → ℕ → Side → Type 0
HoldsPlace s k t d = 0 < turn (s.worker k).phase (s.collected t d) t d

-- no place is out with two workers
pub record IsExclusive (f : Frame) (s : State) : Type 0 where
  pub one_holder : (j k t : ℕ) (d : Side) → j < f.workers → k < f.workers → t < f.nodes →
      HoldsPlace s j t d → HoldsPlace s k t d → j ≡ k

-- both sides of a node have arrived, and it was not collected yet
pub record IsMet (s : State) (t : ℕ) : Type 0 where
  pub arrived : (d : Side) → s.arrived t d ≡ true
  pub uncollected : (d : Side) → s.collected t d ≡ false
