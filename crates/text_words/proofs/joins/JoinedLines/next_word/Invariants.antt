use Rattle.std.proofs.Common.{◌≡◌, ◌<◌, ◌+◌, ◌^◌, length}
use Rattle.text_words.specs.Joins.{joined_lines}
use Rattle.text_words.specs.Parts.{left_of}
use Rattle.text_words.proofs.joins.JoinedLines.next_word.Given as goal

abbrev pub invariant-loop-word : goal.invariant-loop-word
invariant-loop-word l = record {
  left : left_of l.self-inside.words l.self-inside.joins (joined_lines (l.self-inside.number + 1) l.self-inside.lines)
      ≡ l.fn.self;
  count : l.self-inside.number + length l.self-inside.lines < 2 ^ 32;
}

abbrev pub decreases-loop-word : goal.decreases-loop-word
decreases-loop-word l = length l.self-inside.lines
