-- The first and the last position of each inner node, by its split.
use Rattle.std.specs.Prelude.{ℕ, ◌≡◌, ◌<◌, ◌-◌, List, length, slice_index_or}
use Rattle.morton_key.specs.declared.keys.Key.{Key}
use Rattle.morton_key.specs.Keys.{IsLawful}
use Rattle.arrival_core.specs.Settings.{row_of}

-- those of the tree of the keys
pub record AreEnds (keys : List Key) (first last : List ℕ) : Type 0 where
  pub lawful : IsLawful keys
  pub firsts : length first ≡ length keys - 1
  pub lasts : length last ≡ length keys - 1
  pub first_is : (s : ℕ) → s < length keys - 1 → slice_index_or first s 0 ≡ (row_of keys s).first
  pub last_is : (s : ℕ) → s < length keys - 1 → slice_index_or last s 0 ≡ (row_of keys s).last

-- those of the nodes with a number below i
pub record AreEndsBelow (keys : List Key) (first last : List ℕ) (i : ℕ) : Type 0 where
  pub firsts : length first ≡ length keys - 1
  pub lasts : length last ≡ length keys - 1
  pub first_is : (s : ℕ) → s < length keys - 1 → (row_of keys s).number < i →
      slice_index_or first s 0 ≡ (row_of keys s).first
  pub last_is : (s : ℕ) → s < length keys - 1 → (row_of keys s).number < i →
      slice_index_or last s 0 ≡ (row_of keys s).last
