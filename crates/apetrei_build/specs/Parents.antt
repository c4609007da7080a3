-- What the two neighbours of a range of the tree tell of the node above it.
use Rattle.std.specs.Prelude.{ℕ, suc, ◌≡◌, ◌<◌, ◌-◌, List, length, Some, None}
use Rattle.morton_key.specs.declared.keys.Key.{Key}
use Rattle.morton_key.specs.Measure.{measure}
use Rattle.arrival_core.specs.declared.packets.Side.TheVariants.{Left, Right}
use Rattle.arrival_core.specs.Settings.{above}

-- at the two ends of [a, b] the measures differ, and the greater names the parent: that behind b the node with split b,
-- of which the range is the left child, that before a the node with split a - 1; nothing is above the whole
pub record NearerIsAbove (keys : List Key) (a b : ℕ) : Type 0 where
  pub differ : 0 < a → suc b < length keys → measure keys (a - 1) a ≡ measure keys b (suc b) → ⊥
  pub behind : suc b < length keys → (0 < a → measure keys (a - 1) a < measure keys b (suc b)) →
      above keys a b ≡ Some (record { split = b; side = Left })
  pub before : 0 < a → (suc b < length keys → measure keys b (suc b) < measure keys (a - 1) a) →
      above keys a b ≡ Some (record { split = a - 1; side = Right })
  pub whole : a ≡ 0 → suc b ≡ length keys → above keys a b ≡ None
