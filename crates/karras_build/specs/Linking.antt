-- The ends of nodes while they are listed by split. No public clause cites this module.
use Rattle.std.specs.Prelude.{ℕ, ◌≡◌, List, length}
use Rattle.morton_key.specs.declared.keys.Key.{Key}
use Rattle.morton_key.specs.Keys.{IsLawful}
use Rattle.box_handoff.specs.Ends.{AreEndsBelow}
use Rattle.karras_build.specs.declared.ranges.Span.{Span}
use Rattle.karras_build.specs.Spans.{AreSpans}

-- those of the spans before i are listed, whatever keys have these spans
pub record IsLinked (spans : List Span) (first last : List ℕ) (i : ℕ) : Type 0 where
  pub firsts : length first ≡ length spans
  pub lasts : length last ≡ length spans
  pub below : (keys : List Key) → IsLawful keys → AreSpans keys spans → AreEndsBelow keys first last i
