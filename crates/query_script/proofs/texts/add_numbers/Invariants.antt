use Rattle.std.proofs.Common.{◌≡◌, ◌++◌, map, decimal, length}
use Rattle.query_script.specs.Replies.{spaced}
use Rattle.query_script.proofs.texts.add_numbers.Given as goal

abbrev pub invariant-loop-rest : goal.invariant-loop-rest
invariant-loop-rest l =
    l.text.items ++ spaced (map decimal l.rest) ≡ l.initial.text.items ++ spaced (map decimal l.numbers)

abbrev pub decreases-loop-rest : goal.decreases-loop-rest
decreases-loop-rest l = length l.rest
