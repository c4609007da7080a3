-- How far down keys share levels, and the cells of a range of keys, which the crate's own functions cite.
-- No public clause cites this module.
use Rattle.std.specs.Prelude.{ℕ, suc, ◌-◌, ◌/◌, ◌<◌, ◌≢◌, min, List, length}
use Rattle.morton_key.specs.declared.keys.Key.{Key}
use Rattle.morton_key.specs.declared.keys.TheConstants.{WIDTH}
use Rattle.morton_key.specs.Measure.{measure}
use Rattle.octree_cells.specs.declared.cell.Cell.{Cell}
use Rattle.octree_cells.specs.Cells.{prefix_at}
use Rattle.octree_cells.specs.CellsOf.{cells_from}

-- the greatest level at which the keys at two positions have one prefix: each level takes three bits
unfoldable pub shared_level : List Key → ℕ → ℕ → ℕ
shared_level keys i j = min WIDTH (measure keys i j) / 3

-- no key beside [a, b] has the prefix of the key at that end
pub record IsApart (keys : List Key) (level a b : ℕ) : Type 0 where
  pub before : 0 < a → prefix_at keys level (a - 1) ≢ prefix_at keys level a
  pub after : suc b < length keys → prefix_at keys level b ≢ prefix_at keys level (suc b)

-- the cell of a level that has the keys in [a, b]
unfoldable pub cell_over : List Key → ℕ → ℕ → ℕ → Cell
cell_over keys level a b = record { level = level; prefix = prefix_at keys level a; first = a; last = b }

-- the cells of a level whose first keys are in [a, b]
unfoldable pub cells_in : List Key → ℕ → ℕ → ℕ → List Cell
cells_in keys level a b = cells_from keys level a (suc b - a)
