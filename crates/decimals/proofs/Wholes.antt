-- What is known of a whole-number word when its digits are read.
use Rattle.std.proofs.Common.{arith, ◌≡◌, ◌≤◌, ◌<◌, ◌&&◌, [], List, ◌∷◌, length, cond, not, min, nat_le, ℕ, Bool, true, false, refl, sym, ap, subst, ◌∙◌, Ok, Err, Result}
use Rattle.std.proofs.lemmas.Bool.Decides.{nat_tests}
use Rattle.std.proofs.lemmas.List.{nil_from_length}
use Rattle.text_words.specs.Lines.{is_word}
use Rattle.text_words.specs.Numbers.{value_after, digits_of, past_digits}
use Rattle.decimals.specs.Decimals.{is_whole, is_too_long}
use Rattle.decimals.specs.Values.{whole_of}
use Rattle.decimals.specs.declared.fault.NumberFault.{NumberFault}
use Rattle.decimals.specs.declared.limits.TheConstants.{GREATEST, PAST_MOST_DIGITS}
use Rattle.decimals.specs.declared.fault.NumberFault.TheVariants.{NotANumber, TooLong}
use Rattle.decimals.proofs.Runs.{all_digits}
use Rattle.decimals.proofs.Lengths.{AreDigits, too_long_is, digits_are}

-- the digits of a word are all of it
pub record IsAllDigits (word : List ℕ) (value count : ℕ) (rest : List ℕ) : Type 0 where
  pub value_is : value ≡ min (value_after 0 (digits_of word)) PAST_MOST_DIGITS
  pub count_is : count ≡ length (digits_of word)
  pub rest_is : rest ≡ past_digits word
  pub some : count ≡ 0 → ⊥
  pub none : length rest ≡ 0

-- a text whose length is not 0 is a word
some_word : (ds : List ℕ) → (length ds ≡ 0 → ⊥) → is_word ds ≡ true
some_word [] some = absurd (some refl)
some_word (b ∷ bs) some = refl

-- an empty text is no word
no_word : (bs : List ℕ) → bs ≡ [] → is_word bs ≡ false
no_word bs e = ap is_word e

-- a word that is all digits has nothing behind them and the form of a whole number
whole_form : (word : List ℕ) (value count : ℕ) (rest : List ℕ) → IsAllDigits word value count rest
    → (past_digits word ≡ []) × (is_whole word ≡ true)
whole_form word value count rest p =
    let none : past_digits word ≡ [] = sym p.rest_is ∙ nil_from_length rest p.none in
    let some : is_word (digits_of word) ≡ true = some_word (digits_of word) (λ e. p.some (p.count_is ∙ e)) in
    (none, ap (λ k. k && not (is_word (past_digits word))) some ∙ ap (λ k. not k) (no_word (past_digits word) none))

-- its value is the number that it writes, cut off, and it is too long exactly where that number is too large
whole_length : (word : List ℕ) (value count : ℕ) (rest : List ℕ) → IsAllDigits word value count rest
    → (value ≡ min (value_after 0 word) PAST_MOST_DIGITS)
    × (is_too_long word ≡ nat_le PAST_MOST_DIGITS (value_after 0 word))
whole_length word value count rest p =
    let all = all_digits word (whole_form word value count rest p).0 in (
      p.value_is ∙ ap (λ k. min (value_after 0 k) PAST_MOST_DIGITS) all,
      too_long_is word (subst AreDigits all (digits_are word)),
    )

-- the answer for a whole number, by whether it has too many digits
whole_by : (b : Bool) (word : List ℕ) (v : Result ℕ NumberFault) → is_whole word ≡ true → is_too_long word ≡ b
    → cond b (Err TooLong) (Ok (min (value_after 0 word) GREATEST)) ≡ v → v ≡ whole_of word
whole_by b word v e f g =
    sym (ap (λ k. cond (not k) (Err NotANumber)
    (cond (is_too_long word) (Err TooLong) (Ok (min (value_after 0 word) GREATEST)))) e
    ∙ ap (λ k. cond k (Err TooLong) (Ok (min (value_after 0 word) GREATEST))) f ∙ g)

-- a whole number of too many digits
pub whole_too_long : (word : List ℕ) (value count : ℕ) (rest : List ℕ) → IsAllDigits word value count rest
    → PAST_MOST_DIGITS ≤ value
    → Err TooLong ≡ whole_of word
whole_too_long word value count rest p big =
    let l = whole_length word value count rest p in
    let test : nat_le PAST_MOST_DIGITS (value_after 0 word) ≡ true = grind (arith, nat_tests, l.0, big) in
    whole_by true word (Err TooLong) (whole_form word value count rest p).1 (l.1 ∙ test) refl

-- the value of a whole number
pub whole_value : (word : List ℕ) (value count : ℕ) (rest : List ℕ) (v : ℕ) → IsAllDigits word value count rest
    → value < PAST_MOST_DIGITS
    → v ≡ min value GREATEST → Ok v ≡ whole_of word
whole_value word value count rest v p few e =
    let l = whole_length word value count rest p in
    let test : nat_le PAST_MOST_DIGITS (value_after 0 word) ≡ false = grind (arith, nat_tests, l.0, few) in
    let same : min (value_after 0 word) GREATEST ≡ v = omega (arith, l.0, few, e) in
    whole_by false word (Ok v) (whole_form word value count rest p).1 (l.1 ∙ test) (ap Ok same)
