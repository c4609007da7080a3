use Rattle.std.proofs.Common.{◌<◌, ◌≤◌, ◌-◌, ◌/◌, ℕ, length}
use Rattle.text_words.specs.Halves.{IsCutPlace}
use Rattle.text_words.proofs.cutting.halves.Given as goal

abbrev pub invariant-loop-ahead : goal.invariant-loop-ahead
invariant-loop-ahead l = record {
  inside : l.from ≤ length l.text;
  behind : length l.text / 2 ≤ l.from;
  none : (at : ℕ) → IsCutPlace l.text at → l.from < at;
}

abbrev pub decreases-loop-ahead : goal.decreases-loop-ahead
decreases-loop-ahead l = length l.text - l.from
