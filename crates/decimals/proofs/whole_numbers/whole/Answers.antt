use Rattle.std.proofs.Common.{rules}
use Rattle.decimals.proofs.Wholes.{whole_too_long, whole_value}
use Rattle.decimals.proofs.whole_numbers.whole.Goals as goal

pub returns-then-value-ge-PAST_MOST_DIGITS : goal.returns-then-value-ge-PAST_MOST_DIGITS
returns-then-value-ge-PAST_MOST_DIGITS c =
    whole_too_long c.args.word.now c.digits-value.result.0 c.digits-value.result.1 c.digits-value.result.2.now
    (record {
      value_is = search rules;
      count_is = search rules;
      rest_is = search rules;
      some = search rules;
      none = search rules;
    })
    (search rules)

pub returns : goal.returns
returns c =
    whole_value c.args.word.now c.digits-value.result.0 c.digits-value.result.1 c.digits-value.result.2.now _
    (record {
      value_is = search rules;
      count_is = search rules;
      rest_is = search rules;
      some = search rules;
      none = search rules;
    })
    (search rules) (search rules)
