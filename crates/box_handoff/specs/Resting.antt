-- The ends of what stands below a node. No public clause cites this module.
use Rattle.std.specs.Prelude.{ℕ, suc, List}
use Rattle.morton_key.specs.declared.keys.Key.{Key}
use Rattle.arrival_core.specs.declared.packets.Side.{Side}
use Rattle.arrival_core.specs.declared.packets.Side.TheVariants.{Left, Right}
use Rattle.arrival_core.specs.Settings.{row_of}

-- the first position below a side of the node with that split
abbrev pub first_below : List Key → ℕ → Side → ℕ
first_below keys s Left = (row_of keys s).first
first_below keys s Right = suc s

-- and the last
abbrev pub last_below : List Key → ℕ → Side → ℕ
last_below keys s Left = s
last_below keys s Right = (row_of keys s).last

-- where such a child is a leaf, its position
abbrev pub leaf_below : ℕ → Side → ℕ
leaf_below s Left = s
leaf_below s Right = suc s
