-- What a contract sees of the measures of neighbouring keys.
use Rattle.std.specs.Prelude.{ℕ, suc, ◌≡◌, ◌<◌, List, length, slice_index_or}
use Rattle.morton_key.specs.declared.keys.Key.{Key}
use Rattle.morton_key.specs.Keys.{IsLawful}
use Rattle.morton_key.specs.Measure.{measure}

-- those of lawful keys, one for each key but the last: the measure of it and the next one
pub record AreMeasures (keys : List Key) (measures : List ℕ) : Type 0 where
  pub lawful : IsLawful keys
  pub count : suc (length measures) ≡ length keys
  pub each : (k : ℕ) → suc k < length keys → slice_index_or measures k 0 ≡ measure keys k (suc k)
