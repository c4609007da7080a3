-- How far a search goes, which the crate's own functions cite. No public clause cites this module.
use Rattle.std.specs.Prelude.{ℕ, ◌+◌, ◌-◌, ◌<◌, ◌≤◌, List, length}
use Rattle.morton_key.specs.declared.keys.Key.{Key}
use Rattle.morton_key.specs.Measure.{measure}
use Rattle.karras_build.specs.declared.ways.Way.{Way}
use Rattle.karras_build.specs.declared.ways.Way.TheVariants.{Up, Down}

-- the position so far from another is in the list and shares more than so many bits with it
abbrev pub Reaches : List Key → ℕ → Way → ℕ → ℕ → Type 0
Reaches keys at Up distance floor = (at + distance < length keys) × (floor < measure keys at (at + distance))
Reaches keys at Down distance floor = (distance ≤ at) × (floor < measure keys (at - distance) at)
