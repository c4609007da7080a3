use Rattle.std.proofs.Common.{◌≡◌, ◌≤◌, ◌+◌, length}
use Rattle.text_words.specs.Lines.{words_of}
use Rattle.text_words.proofs.words.count_words.Given as goal

abbrev pub invariant-loop-more : goal.invariant-loop-more
invariant-loop-more l =
    (l.count + length (words_of l.rest) ≡ length (words_of l.line)) × (l.count + length l.rest ≤ length l.line)

abbrev pub decreases-loop-more : goal.decreases-loop-more
decreases-loop-more l = length l.rest
