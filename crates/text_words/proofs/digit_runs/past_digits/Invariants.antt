use Rattle.std.proofs.Common.{◌≡◌, drop}
use Rattle.text_words.specs.Numbers.{past_digits}
use Rattle.text_words.proofs.digit_runs.past_digits.Given as goal

abbrev pub invariant-loop-at : goal.invariant-loop-at
invariant-loop-at l = past_digits l.text ≡ past_digits (drop l.at l.text)
