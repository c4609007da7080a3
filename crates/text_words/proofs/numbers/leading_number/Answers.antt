use Rattle.std.proofs.Common.{rules, ◌<◌, ◌^◌}
use Rattle.text_words.proofs.DigitRuns.{digits_within, digits_parted, digits_number, too_large, no_digits}
use Rattle.text_words.proofs.numbers.leading_number.Goals as goal

pub returns-then-value-ge-SMALL_END-clause-none : goal.returns-then-value-ge-SMALL_END-clause-none
returns-then-value-ge-SMALL_END-clause-none c =
    too_large c.args.text.now c.digits-value.result.1.now c.digits-value.result.0 c.digits-value.ensures.value
    (search rules)

pub overflow_sub-count : goal.overflow_sub-count
overflow_sub-count c =
    let small : c.digits-value.result.0 < 10 ^ 18 = search rules in
    digits_within c.args.text.now c.digits-value.result.1.now (c.digits-value.ensures.whole small)

pub returns-then-count-eq0-clause-none : goal.returns-then-count-eq0-clause-none
returns-then-count-eq0-clause-none c =
    let small : c.digits-value.result.0 < 10 ^ 18 = search rules in
    no_digits c.args.text.now c.digits-value.result.1.now (c.digits-value.ensures.whole small) (search rules)

pub returns-clause-number : goal.returns-clause-number
returns-clause-number c =
    let small : c.digits-value.result.0 < 10 ^ 18 = search rules in
    digits_number c.args.text.now c.digits-value.result.1.now c.digits-value.result.0
    (c.digits-value.ensures.whole small) (c.digits-value.ensures.number small) (search rules)

pub returns-clause-whole : goal.returns-clause-whole
returns-clause-whole c =
    let small : c.digits-value.result.0 < 10 ^ 18 = search rules in
    digits_parted c.args.text.now c.digits-value.result.1.now (c.digits-value.ensures.whole small)
