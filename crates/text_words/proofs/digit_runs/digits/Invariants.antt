use Rattle.std.proofs.Common.{◌≡◌, ◌<◌, ◌^◌, drop}
use Rattle.text_words.specs.Numbers.{value_after, digits_of, past_digits}
use Rattle.text_words.proofs.digit_runs.digits.Given as goal

abbrev pub invariant-loop-at : goal.invariant-loop-at
invariant-loop-at l = record {
  value : value_after l.before (digits_of l.text) ≡ value_after l.value (digits_of (drop l.at l.text));
  rest : past_digits l.text ≡ past_digits (drop l.at l.text);
  room : l.value < 10 ^ 19;
}
