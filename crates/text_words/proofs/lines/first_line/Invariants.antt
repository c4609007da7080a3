use Rattle.std.proofs.Common.{take}
use Rattle.text_words.specs.Lines.{IsOneLine}
use Rattle.text_words.proofs.lines.first_line.Given as goal

abbrev pub invariant-loop-at : goal.invariant-loop-at
invariant-loop-at l = IsOneLine (take l.at l.text)
