-- The words that are decimals or whole numbers, and their parts, from left to right.
use Rattle.std.specs.Prelude.{ℕ, Bool, true, List, [], ◌∷◌, ◌++◌, ◌==◌, ◌||◌, ◌&&◌, nat_lt, not, length, if◌then◌else◌}
use Rattle.text_words.specs.Lines.{is_word}
use Rattle.text_words.specs.Numbers.{value_after, starts_minus, past_sign, digits_of, past_digits}
use Rattle.decimals.specs.declared.limits.TheConstants.{MOST_DIGITS}

-- the digits behind a '.' at the front, and what follows them
abbrev pub fraction_of : List ℕ → List ℕ
fraction_of [] = []
fraction_of (b ∷ bs) = if b == 46 then digits_of bs else []

abbrev pub past_fraction : List ℕ → List ℕ
past_fraction [] = []
past_fraction (b ∷ bs) = if b == 46 then past_digits bs else b ∷ bs

-- one or more digits and nothing else
abbrev pub is_whole : List ℕ → Bool
is_whole text = is_word (digits_of text) && not (is_word (past_digits text))

-- nothing, or an exponent: 'e' or 'E', an optional sign, and one or more digits
abbrev pub is_ending : List ℕ → Bool
is_ending [] = true
is_ending (b ∷ bs) = (b == 69 || b == 101) && is_whole (past_sign bs)

-- the power of ten by which an ending raises, and the one by which it lowers; one of them is 0
abbrev pub raised_by : List ℕ → ℕ
raised_by [] = 0
raised_by (b ∷ bs) = if starts_minus bs then 0 else value_after 0 (digits_of (past_sign bs))

abbrev pub lowered_by : List ℕ → ℕ
lowered_by [] = 0
lowered_by (b ∷ bs) = if starts_minus bs then value_after 0 (digits_of (past_sign bs)) else 0

-- the parts of a word behind its sign: the digits before a '.', the digits behind it, and the rest
abbrev pub whole_part : List ℕ → List ℕ
whole_part word = digits_of (past_sign word)

abbrev pub fraction_part : List ℕ → List ℕ
fraction_part word = fraction_of (past_digits (past_sign word))

abbrev pub ending_part : List ℕ → List ℕ
ending_part word = past_fraction (past_digits (past_sign word))

-- the digits before and behind the '.', taken together
abbrev pub mantissa_digits : List ℕ → List ℕ
mantissa_digits word = whole_part word ++ fraction_part word

-- the word is a decimal: it has such a digit, and it ends well
abbrev pub is_decimal : List ℕ → Bool
is_decimal word = is_word (mantissa_digits word) && is_ending (ending_part word)

-- digits from the first that is not '0' on
abbrev pub significant : List ℕ → List ℕ
significant [] = []
significant (b ∷ bs) = if b == 48 then significant bs else b ∷ bs

-- there are more significant digits than are read
abbrev pub is_too_long : List ℕ → Bool
is_too_long digits = nat_lt MOST_DIGITS (length (significant digits))
