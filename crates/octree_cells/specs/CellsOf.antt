-- The same cells by a function: a count over the keys, at each position.
use Rattle.std.specs.Prelude.{ℕ, suc, zero, ◌+◌, ◌-◌, ◌==◌, ◌&&◌, nat_lt, Bool, if◌then◌else◌, List, [], ◌∷◌, ◌++◌, length, take, count_by}
use Rattle.morton_key.specs.declared.keys.Key.{Key}
use Rattle.morton_key.specs.declared.keys.TheConstants.{LEVELS}
use Rattle.octree_cells.specs.declared.cell.Cell.{Cell}
use Rattle.octree_cells.specs.Cells.{prefix_of, prefix_at}

-- how many of the keys have a prefix
unfoldable pub keys_with : ℕ → ℕ → List Key → ℕ
keys_with level prefix keys = count_by (λ k. prefix_of level k.code == prefix) keys

-- the last position, up to i, of a key that has a prefix
unfoldable pub last_with : List Key → ℕ → ℕ → ℕ → ℕ
last_with keys level prefix zero = zero
last_with keys level prefix (suc i) =
    if prefix_at keys level (suc i) == prefix then suc i else last_with keys level prefix i

-- the prefix of the key at a position is that of two or more keys, and of none before it
unfoldable pub is_cell_at : List Key → ℕ → ℕ → Bool
is_cell_at keys level i =
    nat_lt 1 (keys_with level (prefix_at keys level i) keys)
    && keys_with level (prefix_at keys level i) (take i keys) == 0

-- the cell whose first key is at a position
unfoldable pub cell_at : List Key → ℕ → ℕ → Cell
cell_at keys level i =
    record {
      level = level;
      prefix = prefix_at keys level i;
      first = i;
      last = last_with keys level (prefix_at keys level i) (length keys - 1);
    }

-- the cells whose first keys are at so many positions, from one on
unfoldable pub cells_from : List Key → ℕ → ℕ → ℕ → List Cell
cells_from keys level i zero = []
cells_from keys level i (suc count) =
    (if is_cell_at keys level i then cell_at keys level i ∷ [] else []) ++ cells_from keys level (suc i) count

-- the cells of a level
unfoldable pub cells_of : List Key → ℕ → List Cell
cells_of keys level = cells_from keys level 0 (length keys)

-- how many cells the levels from 0 to one have
unfoldable pub cells_to : List Key → ℕ → ℕ
cells_to keys zero = length (cells_of keys 0)
cells_to keys (suc level) = cells_to keys level + length (cells_of keys (suc level))

-- how many cells there are, of all levels
unfoldable pub cell_count_of : List Key → ℕ
cell_count_of keys = cells_to keys LEVELS
