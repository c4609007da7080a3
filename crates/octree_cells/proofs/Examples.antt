-- Worked cells, tried on the definitions alone.
use Rattle.std.proofs.Common.{◌≡◌, ℕ, refl, List, [], ◌∷◌}
use Rattle.morton_key.specs.declared.keys.Key.{Key}
use Rattle.morton_key.specs.Keys.{code_at, key_at}
use Rattle.octree_cells.specs.declared.cell.Cell.{Cell}
use Rattle.octree_cells.specs.Cells.{prefix_of, prefix_at}
use Rattle.octree_cells.specs.CellsOf.{keys_with, last_with, is_cell_at, cell_at, cells_from, cells_of, cells_to, cell_count_of}

-- two keys with the code 7 * 2 ^ 51 + 48
abbrev alike : List Key
alike = record { code = 15762598695796784; tri = 1 } ∷ record { code = 15762598695796784; tri = 2 } ∷ []

-- the cell of both keys
abbrev whole : ℕ → ℕ → Cell
whole level prefix = record { level = level; prefix = prefix; first = 0; last = 1 }

-- equal codes share a cell at the last level
at_the_last_level : cells_of alike 18 ≡ whole 18 15762598695796784 ∷ []
unfolding cells_of cells_from cell_at is_cell_at last_with keys_with prefix_at prefix_of code_at key_at
at_the_last_level = refl

-- and at the level above
one_level_above : cells_of alike 17 ≡ whole 17 1970324836974598 ∷ []
unfolding cells_of cells_from cell_at is_cell_at last_with keys_with prefix_at prefix_of code_at key_at
one_level_above = refl

-- and at the first
one_level_down : cells_of alike 1 ≡ whole 1 7 ∷ []
unfolding cells_of cells_from cell_at is_cell_at last_with keys_with prefix_at prefix_of code_at key_at
one_level_down = refl

-- the world is one cell
the_world : cells_of alike 0 ≡ whole 0 0 ∷ []
unfolding cells_of cells_from cell_at is_cell_at last_with keys_with prefix_at prefix_of code_at key_at
the_world = refl

-- there is one at each of the 19 levels
of_all_levels : cell_count_of alike ≡ 19
unfolding cell_count_of cells_to cells_of cells_from cell_at is_cell_at last_with keys_with prefix_at prefix_of code_at
    key_at
of_all_levels = refl

-- the octants 0, 0, 5, 5, 7 of the first level
abbrev octants : List Key
octants =
    record { code = 1; tri = 3 } ∷ record { code = 2; tri = 1 } ∷ record { code = 11258999068426240; tri = 2 }
    ∷ record { code = 11258999068426241; tri = 5 } ∷ record { code = 15762598695796736; tri = 4 } ∷ []

a_single_key_is_no_cell
    : cells_of octants 1
    ≡ record { level = 1; prefix = 0; first = 0; last = 1 } ∷ record { level = 1; prefix = 5; first = 2; last = 3 } ∷ []
unfolding cells_of cells_from cell_at is_cell_at last_with keys_with prefix_at prefix_of code_at key_at
a_single_key_is_no_cell = refl

-- one key has no cell
of_one_key : cell_count_of (record { code = 48; tri = 1 } ∷ []) ≡ 0
unfolding cell_count_of cells_to cells_of cells_from cell_at is_cell_at last_with keys_with prefix_at prefix_of code_at
    key_at
of_one_key = refl

-- nor has none
of_no_key : cell_count_of [] ≡ 0
unfolding cell_count_of cells_to cells_of cells_from
of_no_key = refl
