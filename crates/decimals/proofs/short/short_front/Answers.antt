use Rattle.std.proofs.Common.{rules, ◌≡◌, ◌<◌, ◌^◌, ◌+◌, ◌-◌, ◌∙◌, true, length, nat_lt, ap}
use Rattle.text_words.specs.Numbers.{value_after, past_sign, digits_of, past_digits}
use Rattle.decimals.specs.Decimals.{whole_part, fraction_part}
use Rattle.decimals.proofs.Runs.{digits_within, digits_count}
use Rattle.decimals.proofs.Words.{front_mantissa, front_some}
use Rattle.decimals.proofs.short.short_front.Goals as goal

pub overflow_sub-body : goal.overflow_sub-body
overflow_sub-body c =
    let small : c.digits-whole.result.0 < 10 ^ 18 = search rules in
    digits_within _ _ (c.digits-whole.ensures.whole small)

pub returns : goal.returns
returns c =
    let text = c.args.text.now in
    let rest = c.sign-minus.result.1.now in
    let more = c.digits-whole.result.1.now in
    let value = c.digits-whole.result.0 in
    let small : value < 10 ^ 18 = search rules in
    let body : rest ≡ past_sign text = search rules in
    let behind : more ≡ past_digits rest = c.digits-whole.ensures.whole small in
    let number : value ≡ value_after 0 (digits_of rest) = c.digits-whole.ensures.number small in
    let whole : value ≡ value_after 0 (whole_part text) = number ∙ ap (λ t. value_after 0 (digits_of t)) body in
    let fraction : c.in_ok-mantissa.mantissa ≡ value_after value (fraction_part text) = search (rules, behind) in
    let before : length rest - length more ≡ length (whole_part text) =
    digits_count rest more behind ∙ ap (λ t. length (digits_of t)) body in
    let places : c.in_ok-mantissa.places ≡ length (fraction_part text) = search (rules, behind) in
    let some : nat_lt 0 (length rest - length more + c.in_ok-mantissa.places) ≡ true = search rules in
    let mantissa = front_mantissa text value c.in_ok-mantissa.mantissa whole fraction in
    record {
      minus = search rules;
      mantissa = search (rules, mantissa);
      places = places;
      some = front_some text (length rest - length more) c.in_ok-mantissa.places before places some;
      rest_is = search (rules, behind);
      few = search rules;
      raised = search rules;
      lowered = search rules;
    }
