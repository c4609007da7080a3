-- The value of a number word, or why it has none.
use Rattle.std.specs.Prelude.{ℕ, List, not, min, if◌then◌else◌, ℤ, pos, neg_ℤ, Ok, Err, Result}
use Rattle.std.specs.Int.{int_min, int_max}
use Rattle.text_words.specs.Numbers.{value_after}
use Rattle.decimals.specs.Decimals.{is_decimal, is_whole, mantissa_digits, is_too_long}
use Rattle.decimals.specs.Fractions.{fraction_written, nearest_step}
use Rattle.decimals.specs.declared.fault.NumberFault.{NumberFault}
use Rattle.decimals.specs.declared.fault.NumberFault.TheVariants.{NotANumber, TooLong}
use Rattle.decimals.specs.declared.limits.TheConstants.{GREATEST}

-- brought into -GREATEST to GREATEST
abbrev pub brought_in : ℤ → ℤ
brought_in n = int_max (neg_ℤ (pos GREATEST)) (int_min n (pos GREATEST))

-- the grid value of a decimal word
abbrev pub grid_of : ℕ → List ℕ → Result ℤ NumberFault
grid_of unit word =
    if not (is_decimal word) then Err NotANumber
    else (if is_too_long (mantissa_digits word) then Err TooLong
    else Ok (brought_in (nearest_step unit (fraction_written word))))

-- the value of a whole-number word
abbrev pub whole_of : List ℕ → Result ℕ NumberFault
whole_of word =
    if not (is_whole word) then Err NotANumber
    else (if is_too_long word then Err TooLong else Ok (min (value_after 0 word) GREATEST))
