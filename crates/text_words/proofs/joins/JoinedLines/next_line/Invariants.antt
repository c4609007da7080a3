use Rattle.std.proofs.Common.{◌≡◌, ◌<◌, ◌+◌, ◌^◌, length}
use Rattle.text_words.specs.Joins.{joined_lines}
use Rattle.text_words.specs.Parts.{left_of}
use Rattle.text_words.proofs.joins.JoinedLines.next_line.Given as goal

abbrev pub invariant-loop-self : goal.invariant-loop-self
invariant-loop-self l = record {
  later : (left_of l.self-inside.words l.self-inside.joins
      (joined_lines (l.self-inside.number + 1) l.self-inside.lines)).later ≡ l.fn.self.later;
  count : l.self-inside.number + length l.self-inside.lines < 2 ^ 32;
}

abbrev pub decreases-loop-self : goal.decreases-loop-self
decreases-loop-self l = length l.self-inside.lines
