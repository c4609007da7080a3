use Rattle.std.proofs.Common.{◌≡◌, ◌≤◌, drop, min}
use Rattle.text_words.specs.Numbers.{value_after, digits_of, past_digits}
use Rattle.decimals.specs.declared.limits.TheConstants.{PAST_MOST_DIGITS}
use Rattle.decimals.proofs.digits.many_digits.Given as goal

abbrev pub invariant-loop-at : goal.invariant-loop-at
invariant-loop-at l = record {
  value : min (value_after l.before (digits_of l.text)) PAST_MOST_DIGITS
      ≡ min (value_after l.value (digits_of (drop l.at l.text))) PAST_MOST_DIGITS;
  rest : past_digits l.text ≡ past_digits (drop l.at l.text);
  small : l.value ≤ PAST_MOST_DIGITS;
}
