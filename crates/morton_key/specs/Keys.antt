-- Which lists of keys are lawful: those that a build, a tree and its cells may stand on.
use Rattle.std.specs.Prelude.{ℕ, ◌≡◌, ◌<◌, ◌≤◌, ◌^◌, ◌==◌, ◌⊎◌, List, length, slice_index_or, count_by}
use Rattle.morton_key.specs.declared.keys.Key.{Key}
use Rattle.morton_key.specs.declared.keys.TheConstants.{WIDTH, POSITION_WIDTH}

-- the key at a position
unfoldable pub key_at : List Key → ℕ → Key
key_at keys i = slice_index_or keys i (record { code = 0; tri = 0 })

-- its code
unfoldable pub code_at : List Key → ℕ → ℕ
code_at keys i = (key_at keys i).code

-- and its triangle's number
unfoldable pub tri_at : List Key → ℕ → ℕ
tri_at keys i = (key_at keys i).tri

-- the first key has the smaller code, or the same code and the smaller number
abbrev pub IsBefore : Key → Key → Type 0
IsBefore a b = (a.code < b.code) ⊎ ((a.code ≡ b.code) × (a.tri < b.tri))

-- each key is before all later ones
pub record IsRising (keys : List Key) : Type 0 where
  pub before : (i j : ℕ) → i < j → j < length keys → IsBefore (key_at keys i) (key_at keys j)

-- at most 2 ^ POSITION_WIDTH keys that rise, with codes of WIDTH bits, and one key for each triangle
pub record IsLawful (keys : List Key) : Type 0 where
  pub few : length keys ≤ 2 ^ POSITION_WIDTH
  pub narrow : (i : ℕ) → i < length keys → code_at keys i < 2 ^ WIDTH
  pub rising : IsRising keys
  pub from_one : (i : ℕ) → i < length keys → 0 < tri_at keys i
  pub to_count : (i : ℕ) → i < length keys → tri_at keys i ≤ length keys
  pub each_once : (t : ℕ) → 0 < t → t ≤ length keys → count_by (λ k. k.tri == t) keys ≡ 1
