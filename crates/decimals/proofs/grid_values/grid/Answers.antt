use Rattle.std.proofs.Common.{rules}
use Rattle.decimals.proofs.Words.{too_long_word, value_of_word}
use Rattle.decimals.proofs.LeadingWords.{short_value}
use Rattle.decimals.proofs.grid_values.grid.Goals as goal

pub returns-in-Some : goal.returns-in-Some
returns-in-Some c =
    short_value c.args.unit c.args.word.now c.in-Some.decimal _ (search rules) (search rules) (search rules)
    (search rules)

pub returns-then-decimal-ge-PAST_MOST_DIGITS : goal.returns-then-decimal-ge-PAST_MOST_DIGITS
returns-then-decimal-ge-PAST_MOST_DIGITS c =
    too_long_word c.args.unit c.args.word.now c.in-Some-long_parts.decimal (search rules) (search rules)

pub returns : goal.returns
returns c =
    value_of_word c.args.unit c.args.word.now c.in-Some-long_parts.decimal _ (search rules) (search rules)
    (search rules) (search rules) (search rules)
