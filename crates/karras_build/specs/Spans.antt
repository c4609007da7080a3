-- The range and the split of each number, which a build finds before any box.
use Rattle.std.specs.Prelude.{ℕ, ◌≡◌, ◌<◌, ◌-◌, List, length, slice_index_or}
use Rattle.morton_key.specs.declared.keys.Key.{Key}
use Rattle.radix_tree.specs.Split.{split}
use Rattle.radix_tree.specs.Ranges.{IsNode}
use Rattle.karras_build.specs.declared.ranges.Span.{Span}

-- the span of a number
unfoldable pub span_at : List Span → ℕ → Span
span_at spans k = slice_index_or spans k (record { first = 0; last = 0; split = 0 })

-- the span has the range and the split of that number
pub record IsSpan (keys : List Key) (number : ℕ) (span : Span) : Type 0 where
  pub range : IsNode keys number span.first span.last
  pub part : span.split ≡ split keys span.first span.last

-- one span fewer than keys, each at its number
pub record AreSpans (keys : List Key) (spans : List Span) : Type 0 where
  pub count : length spans ≡ length keys - 1
  pub each : (k : ℕ) → k < length spans → IsSpan keys k (span_at spans k)
