-- Which neighbour of a range is nearer, by a list of measures. No public clause cites this module.
use Rattle.std.specs.Prelude.{ℕ, ◌<◌, ◌-◌, List, length, slice_index_or}

-- a position follows [a, b], and where one stands before it, the measure there is smaller
pub record IsNearerBehind (measures : List ℕ) (a b : ℕ) : Type 0 where
  pub follows : b < length measures
  pub smaller : 0 < a → slice_index_or measures (a - 1) 0 < slice_index_or measures b 0
