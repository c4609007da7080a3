-- The octree cells of keys in order: the prefixes that two or more keys have. What is meant, as a relation.
use Rattle.std.specs.Prelude.{ℕ, ◌≡◌, ◌↔◌, ◌-◌, ◌*◌, ◌/◌, ◌^◌, ◌<◌, ◌≤◌, List, length}
use Rattle.std.specs.List.{All, AllPairs, Contains}
use Rattle.morton_key.specs.declared.keys.Key.{Key}
use Rattle.morton_key.specs.declared.keys.TheConstants.{WIDTH}
use Rattle.morton_key.specs.Keys.{code_at}
use Rattle.octree_cells.specs.declared.cell.Cell.{Cell}

-- the prefix of a level that a code has: the code without its last WIDTH - 3 level bits
unfoldable pub prefix_of : ℕ → ℕ → ℕ
prefix_of level code = code / 2 ^ (WIDTH - 3 * level)

-- the prefix that the key at a position has
unfoldable pub prefix_at : List Key → ℕ → ℕ → ℕ
prefix_at keys level i = prefix_of level (code_at keys i)

-- the cell is one of that level: its prefix is that of two or more keys, those at its positions from first to last
pub record IsCell (keys : List Key) (depth : ℕ) (cell : Cell) : Type 0 where
  pub at_depth : cell.level ≡ depth
  pub two : cell.first < cell.last
  pub within : cell.last < length keys
  pub alike : (i : ℕ) → i < length keys →
      (prefix_at keys depth i ≡ cell.prefix) ↔ ((cell.first ≤ i) × (i ≤ cell.last))

-- the list has a cell with that prefix
abbrev pub Lists : List Cell → ℕ → Type 0
Lists cells prefix = (cell : Cell) × Contains cells cell × (cell.prefix ≡ prefix)

-- the list has the cells of a level and no other: each prefix that two keys have, once, and they rise
pub record AreCells (keys : List Key) (level : ℕ) (cells : List Cell) : Type 0 where
  pub each : All (IsCell keys level) cells
  pub every : (i j : ℕ) → i < j → j < length keys → prefix_at keys level i ≡ prefix_at keys level j →
      Lists cells (prefix_at keys level i)
  pub rising : AllPairs (λ a b. a.prefix < b.prefix) cells
