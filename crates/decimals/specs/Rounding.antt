-- How a size is rounded, with its sign apart. No public clause cites this module.
use Rattle.std.specs.Prelude.{◌≡◌, ◌⊎◌, ◌<◌, ℕ, ◌+◌, ◌-◌, ◌*◌, ◌/◌, ◌^◌, Bool, List, true, length, min, if◌then◌else◌}
use Rattle.text_words.specs.Lines.{is_word}
use Rattle.text_words.specs.Numbers.{value_after, starts_minus}
use Rattle.decimals.specs.Decimals.{is_decimal, mantissa_digits, fraction_part, ending_part, raised_by, lowered_by}
use Rattle.decimals.specs.declared.decimal.Decimal.{Decimal}
use Rattle.decimals.specs.declared.limits.TheConstants.{GREATEST, PAST_MOST_DIGITS, FEW}

-- num / den to the nearest whole number; a half goes up, which below zero is down in size
abbrev pub rounded : Bool → ℕ → ℕ → ℕ
rounded minus num den = if minus then (2 * num + den - 1) / (2 * den) else (2 * num + den) / (2 * den)

-- the size of n * 10^up / 10^down, rounded and cut off at the greatest value
abbrev pub size_of : Bool → ℕ → ℕ → ℕ → ℕ
size_of minus n up down = min (rounded minus (n * 10 ^ up) (10 ^ down)) GREATEST

-- the word is read as these parts, each number cut off at the first that is too long
pub record IsReadAs (word : List ℕ) (d : Decimal) : Type 0 where
  pub decimal : is_decimal word ≡ true
  pub minus : d.minus ≡ starts_minus word
  pub mantissa : d.mantissa ≡ min (value_after 0 (mantissa_digits word)) PAST_MOST_DIGITS
  pub places : d.places ≡ length (fraction_part word)
  pub raised : d.raised ≡ min (raised_by (ending_part word)) PAST_MOST_DIGITS
  pub lowered : d.lowered ≡ min (lowered_by (ending_part word)) PAST_MOST_DIGITS
  pub one : (d.raised ≡ 0) ⊎ (d.lowered ≡ 0)

-- the text begins with this decimal without an exponent, whose digits fit 64 bits, and goes on so
pub record IsFront (text : List ℕ) (d : Decimal) (rest : List ℕ) : Type 0 where
  pub minus : d.minus ≡ starts_minus text
  pub mantissa : d.mantissa ≡ value_after 0 (mantissa_digits text)
  pub places : d.places ≡ length (fraction_part text)
  pub some : is_word (mantissa_digits text) ≡ true
  pub rest_is : rest ≡ ending_part text
  pub few : d.mantissa < FEW
  pub raised : d.raised ≡ 0
  pub lowered : d.lowered ≡ 0
