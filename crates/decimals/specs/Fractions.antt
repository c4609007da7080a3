-- The exact fraction that a decimal writes, and the nearest whole number of grid steps.
use Rattle.std.specs.Prelude.{ℕ, ◌+◌, ◌*◌, ◌^◌, Bool, List, length, if◌then◌else◌, ℤ, pos, neg_ℤ, ◌+ℤ◌, ◌*ℤ◌}
use Rattle.std.specs.Int.{int_div_euclid}
use Rattle.text_words.specs.Numbers.{value_after, starts_minus}
use Rattle.decimals.specs.Decimals.{mantissa_digits, fraction_part, ending_part, raised_by, lowered_by}

-- a whole number over another, which is not 0
pub record Fraction : Type 0 where
  pub num : ℤ
  pub den : ℕ

-- a size with its sign
abbrev pub with_sign : Bool → ℕ → ℤ
with_sign minus size = if minus then neg_ℤ (pos size) else pos size

-- digits of this value, the last `places` of them behind the '.', with an exponent that raises or lowers
abbrev pub scaled : Bool → ℕ → ℕ → ℕ → ℕ → Fraction
scaled minus value places raised lowered =
    record { num = with_sign minus (value * 10 ^ raised); den = 10 ^ (places + lowered) }

-- what a decimal writes
abbrev pub fraction_written : List ℕ → Fraction
fraction_written word =
    scaled (starts_minus word) (value_after 0 (mantissa_digits word)) (length (fraction_part word))
    (raised_by (ending_part word)) (lowered_by (ending_part word))

-- a / b rounded down, for b above 0
abbrev pub floor : ℤ → ℕ → ℤ
floor a b = int_div_euclid a (pos b)

-- x * unit + 1/2, rounded down
abbrev pub nearest_step : ℕ → Fraction → ℤ
nearest_step unit x = floor (pos (2 * unit) *ℤ x.num +ℤ pos x.den) (2 * x.den)
