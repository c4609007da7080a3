-- What is known of a number word when its parts are read.
use Rattle.std.proofs.Common.{arith, ◌≡◌, ◌≤◌, ◌<◌, ◌^◌, ◌+◌, ◌++◌, ◌∷◌, ◌&&◌, [], List, length, cond, not, min, nat_le, nat_lt, ℕ, Bool, true, false, refl, sym, ap, ◌∙◌, ◌⊎◌, inl, inr, ℤ, Ok, Err, Result}
use Rattle.std.proofs.lemmas.Bool.Decides.{nat_tests}
use Rattle.text_words.specs.Lines.{is_word}
use Rattle.text_words.specs.Numbers.{value_after, starts_minus}
use Rattle.decimals.specs.Decimals.{whole_part, fraction_part, ending_part, mantissa_digits, is_decimal, is_ending, is_too_long, raised_by, lowered_by}
use Rattle.decimals.specs.Fractions.{nearest_step, scaled, fraction_written}
use Rattle.decimals.specs.Values.{brought_in, grid_of}
use Rattle.decimals.specs.Rounding.{IsReadAs, IsFront}
use Rattle.decimals.specs.declared.decimal.Decimal.{Decimal}
use Rattle.decimals.specs.declared.fault.NumberFault.{NumberFault}
use Rattle.decimals.specs.declared.limits.TheConstants.{PAST_MOST_DIGITS}
use Rattle.decimals.specs.declared.fault.NumberFault.TheVariants.{NotANumber, TooLong}
use Rattle.decimals.proofs.Runs.{two_runs, value_after-append}
use Rattle.decimals.proofs.Lengths.{too_long_is, mantissa_are}
use Rattle.decimals.proofs.Caps.{same_value}

-- two texts together are a word exactly where their lengths together are above 0
is_word-append : (xs ys : List ℕ) → is_word (xs ++ ys) ≡ nat_lt 0 (length xs + length ys)
is_word-append [] [] = refl
is_word-append [] (b ∷ bs) = grind (arith, nat_tests)
is_word-append (b ∷ bs) ys = grind (arith, nat_tests)

-- a word without a digit before its exponent
pub no_digit : (word : List ℕ) (before behind : ℕ) → before ≡ length (whole_part word)
    → behind ≡ length (fraction_part word)
    → nat_lt 0 (before + behind) ≡ false → is_decimal word ≡ false
no_digit word before behind p q e =
    ap (λ k. k && is_ending (ending_part word))
    (is_word-append (whole_part word) (fraction_part word)
    ∙ ap (λ k. nat_lt 0 (k + length (fraction_part word))) (sym p) ∙ ap (λ k. nat_lt 0 (before + k)) (sym q) ∙ e)

-- a test and one that fails fail together
and_false : (a : Bool) → a && false ≡ false
and_false true = refl
and_false false = refl

-- a word that ends otherwise
pub no_ending : (word : List ℕ) → is_ending (ending_part word) ≡ false → is_decimal word ≡ false
no_ending word e = ap (λ k. is_word (mantissa_digits word) && k) e ∙ and_false (is_word (mantissa_digits word))

-- a word with a digit that ends well
pub both_there : (word : List ℕ) (before behind : ℕ) → before ≡ length (whole_part word)
    → behind ≡ length (fraction_part word)
    → nat_lt 0 (before + behind) ≡ true → is_ending (ending_part word) ≡ true → is_decimal word ≡ true
both_there word before behind p q e f =
    ap (λ k. k && is_ending (ending_part word))
    (is_word-append (whole_part word) (fraction_part word)
    ∙ ap (λ k. nat_lt 0 (k + length (fraction_part word))) (sym p) ∙ ap (λ k. nat_lt 0 (before + k)) (sym q) ∙ e)
    ∙ f

-- the parts of a decimal that were read
pub record AreParts (word : List ℕ) (d : Decimal) (whole before : ℕ) : Type 0 where
  pub minus : d.minus ≡ starts_minus word
  pub whole_is : whole ≡ min (value_after 0 (whole_part word)) PAST_MOST_DIGITS
  pub before_is : before ≡ length (whole_part word)
  pub mantissa : d.mantissa ≡ min (value_after whole (fraction_part word)) PAST_MOST_DIGITS
  pub places : d.places ≡ length (fraction_part word)
  pub some : nat_lt 0 (before + d.places) ≡ true
  pub ends : is_ending (ending_part word) ≡ true
  pub raised : d.raised ≡ min (raised_by (ending_part word)) PAST_MOST_DIGITS
  pub lowered : d.lowered ≡ min (lowered_by (ending_part word)) PAST_MOST_DIGITS
  pub one : (d.raised ≡ 0) ⊎ (d.lowered ≡ 0)

-- a word whose parts were read is read as the decimal that they make
pub parts_read : (word : List ℕ) (d : Decimal) (whole before : ℕ) → AreParts word d whole before → IsReadAs word d
parts_read word d whole before p = record {
  decimal = both_there word before d.places p.before_is p.places p.some p.ends;
  minus = p.minus;
  mantissa = two_runs PAST_MOST_DIGITS whole d.mantissa (whole_part word) (fraction_part word) p.whole_is p.mantissa;
  places = p.places;
  raised = p.raised;
  lowered = p.lowered;
  one = p.one;
}

-- the number that the digits before the point and those behind it write
pub front_mantissa : (text : List ℕ) (whole value : ℕ) → whole ≡ value_after 0 (whole_part text)
    → value ≡ value_after whole (fraction_part text) → value ≡ value_after 0 (mantissa_digits text)
front_mantissa text whole value p q =
    q ∙ ap (λ k. value_after k (fraction_part text)) p
    ∙ sym (value_after-append 0 (whole_part text) (fraction_part text))

-- one of them is there
pub front_some : (text : List ℕ) (before behind : ℕ) → before ≡ length (whole_part text)
    → behind ≡ length (fraction_part text) → nat_lt 0 (before + behind) ≡ true → is_word (mantissa_digits text) ≡ true
front_some text before behind p q e =
    is_word-append (whole_part text) (fraction_part text)
    ∙ ap (λ k. nat_lt 0 (k + length (fraction_part text))) (sym p) ∙ ap (λ k. nat_lt 0 (before + k)) (sym q) ∙ e

-- a rest of length 0 is empty
none_left : (rest : List ℕ) → length rest ≡ 0 → rest ≡ []
none_left [] e = refl
none_left (b ∷ bs) e = absurd (omega (arith, e))

-- a word that begins with a decimal and ends there is read as that
pub front_read : (word : List ℕ) (d : Decimal) (rest : List ℕ) → IsFront word d rest → length rest ≡ 0
    → IsReadAs word d
front_read word d rest p none =
    let ends : ending_part word ≡ [] = sym p.rest_is ∙ none_left rest none in
    let few = p.few in
    record {
      decimal = ap (λ k. k && is_ending (ending_part word)) p.some ∙ ap is_ending ends;
      minus = p.minus;
      mantissa = omega (arith, p.mantissa, few);
      places = p.places;
      raised = p.raised ∙ sym (ap (λ e. min (raised_by e) PAST_MOST_DIGITS) ends);
      lowered = p.lowered ∙ sym (ap (λ e. min (lowered_by e) PAST_MOST_DIGITS) ends);
      one = inl p.raised;
    }

-- a decimal with too many digits
pub too_long_word : (unit : ℕ) (word : List ℕ) (d : Decimal) → IsReadAs word d → PAST_MOST_DIGITS ≤ d.mantissa
    → Err TooLong ≡ grid_of unit word
too_long_word unit word d r big =
    let large : PAST_MOST_DIGITS ≤ value_after 0 (mantissa_digits word) = omega (arith, r.mantissa, big) in
    let test : nat_le PAST_MOST_DIGITS (value_after 0 (mantissa_digits word)) ≡ true = grind (arith, nat_tests) in
    let digits = mantissa_digits word in
    let long : is_too_long digits ≡ true = too_long_is digits (mantissa_are word) ∙ test in
    let value : Result ℤ NumberFault = Ok (brought_in (nearest_step unit (fraction_written word))) in
    let first = ap (λ k. cond (not k) (Err NotANumber) (cond (is_too_long digits) (Err TooLong) value)) r.decimal in
    sym (first ∙ ap (λ k. cond k (Err TooLong) value) long)

-- the grid value of parts
abbrev value_of : ℕ → Bool → ℕ → ℕ → ℕ → ℕ → ℤ
value_of unit minus value places raised lowered =
    brought_in (nearest_step unit (scaled minus value places raised lowered))

-- where the digits fit, the grid value of the parts read is that of the word's own, its exponents cut off
same_parts : (unit : ℕ) (word : List ℕ) (d : Decimal) → IsReadAs word d → d.mantissa < PAST_MOST_DIGITS
    → value_of unit d.minus d.mantissa d.places d.raised d.lowered
    ≡ value_of unit (starts_minus word) (value_after 0 (mantissa_digits word)) (length (fraction_part word))
    (min (raised_by (ending_part word)) PAST_MOST_DIGITS) (min (lowered_by (ending_part word)) PAST_MOST_DIGITS)
same_parts unit word d r few =
    let minus = starts_minus word in
    let value = value_after 0 (mantissa_digits word) in
    let places = length (fraction_part word) in
    let raised = min (raised_by (ending_part word)) PAST_MOST_DIGITS in
    let whole : d.mantissa ≡ value = omega (arith, r.mantissa, few) in
    ap (λ k. value_of unit k d.mantissa d.places d.raised d.lowered) r.minus
    ∙ ap (λ k. value_of unit minus k d.places d.raised d.lowered) whole
    ∙ ap (λ k. value_of unit minus value k d.raised d.lowered) r.places
    ∙ ap (λ k. value_of unit minus value places k d.lowered) r.raised
    ∙ ap (value_of unit minus value places raised) r.lowered

-- where one of two numbers is 0, so is one of two that equal them
one_is_none : (a b c d : ℕ) → a ≡ c → b ≡ d → (a ≡ 0) ⊎ (b ≡ 0) → (c ≡ 0) ⊎ (d ≡ 0)
one_is_none a b c d e f one = elim one [ inl p ↦ inl (sym e ∙ p) | inr p ↦ inr (sym f ∙ p) ]

-- the grid value of a decimal that is not too long is the step nearest to what it writes, brought in
ok_of : (unit : ℕ) (word : List ℕ) → is_decimal word ≡ true → is_too_long (mantissa_digits word) ≡ false
    → grid_of unit word ≡ Ok (brought_in (nearest_step unit (fraction_written word)))
ok_of unit word decimal short =
    let value : Result ℤ NumberFault = Ok (brought_in (nearest_step unit (fraction_written word))) in
    ap (λ k. cond (not k) (Err NotANumber) (cond (is_too_long (mantissa_digits word)) (Err TooLong) value)) decimal
    ∙ ap (λ k. cond k (Err TooLong) value) short

-- the grid value of a decimal, from its parts
pub value_of_word : (unit : ℕ) (word : List ℕ) (d : Decimal) (v : ℤ) → unit < 2 ^ 32 → d.places < 2 ^ 64
    → IsReadAs word d → d.mantissa < PAST_MOST_DIGITS
    → v ≡ brought_in (nearest_step unit (scaled d.minus d.mantissa d.places d.raised d.lowered))
    → Ok v ≡ grid_of unit word
value_of_word unit word d v narrow near r few e =
    let m = value_after 0 (mantissa_digits word) in
    let small : m < PAST_MOST_DIGITS = omega (arith, r.mantissa, few) in
    let far : length (fraction_part word) + 34 < PAST_MOST_DIGITS = omega (arith, r.places, near) in
    let one = one_is_none d.raised d.lowered _ _ r.raised r.lowered r.one in
    let test : nat_le PAST_MOST_DIGITS m ≡ false = grind (arith, nat_tests, small) in
    let digits = mantissa_digits word in
    let short : is_too_long digits ≡ false = too_long_is digits (mantissa_are word) ∙ test in
    let raised = raised_by (ending_part word) in
    let lowered = lowered_by (ending_part word) in
    let places = length (fraction_part word) in
    let kept = same_value (starts_minus word) m unit places raised lowered PAST_MOST_DIGITS small narrow far one in
    ap Ok (e ∙ same_parts unit word d r few ∙ kept) ∙ sym (ok_of unit word r.decimal short)
