-- The digits at the front of a text, and what follows them.
use Rattle.std.proofs.Common.{◌≡◌, ◌≤◌, ◌+◌, ◌-◌, ◌*◌, ◌&&◌, ℕ, Bool, true, false, List, [], ◌∷◌, ◌++◌, IsTrue, length, take, cond, refl, sym, ap, ◌∙◌, subst, length-append, arith}
use Rattle.std.specs.List.{list_all}
use Rattle.std.proofs.Math.Seq.{take-append_seam}
use Rattle.std.proofs.lemmas.Bool.{and_parts}
use Rattle.std.proofs.lemmas.Bool.Decides.{nat_tests}
use Rattle.text_words.specs.Lines.{is_blank}
use Rattle.text_words.specs.Cuts.{IsBroken, front_of}
use Rattle.text_words.specs.Numbers.{is_digit, value_after, digits_of, past_digits}
use Rattle.text_words.specs.ThreeNumbers.{IsNumber, IsSmallNumber}

-- the digits of a text and what follows them are the text, whether or not the byte before it is a digit
parts_by : (b : ℕ) (bs : List ℕ) (k : Bool) → digits_of bs ++ past_digits bs ≡ bs
    → cond k (b ∷ digits_of bs) [] ++ cond k (past_digits bs) (b ∷ bs) ≡ b ∷ bs
parts_by b bs true e = ap (λ k. b ∷ k) e
parts_by b bs false e = refl

-- both together are the text
pub digit_parts : (text : List ℕ) → digits_of text ++ past_digits text ≡ text
digit_parts [] = refl
digit_parts (b ∷ bs) = parts_by b bs (is_digit b) (digit_parts bs)

-- the digits at the front are digits, whether or not the byte before the text is one
digits_by : (b : ℕ) (bs : List ℕ) (k : Bool) → is_digit b ≡ k → IsTrue (list_all is_digit (digits_of bs))
    → IsTrue (list_all is_digit (cond k (b ∷ digits_of bs) []))
digits_by b bs true e p = ap (λ k. k && list_all is_digit (digits_of bs)) e ∙ p
digits_by b bs false e p = refl

-- the digits at the front are digits
pub digits_are : (text : List ℕ) → IsTrue (list_all is_digit (digits_of text))
digits_are [] = refl
digits_are (b ∷ bs) = digits_by b bs (is_digit b) refl (digits_are bs)

-- they are as long as what is left of the text without what follows them
pub length-digits : (text : List ℕ) → length (digits_of text) + length (past_digits text) ≡ length text
length-digits text = sym (length-append (digits_of text) (past_digits text)) ∙ ap length (digit_parts text)

-- what follows the digits is within the text
pub digits_within : (text rest : List ℕ) → rest ≡ past_digits text → length rest ≤ length text
digits_within text rest e = omega (arith, length-digits text, ap length e)

-- a text without what follows its digits is its digits
pub digits_taken : (text rest : List ℕ) → rest ≡ past_digits text
    → take (length text - length rest) text ≡ digits_of text
digits_taken text rest e =
    let count : length text - length rest ≡ length (digits_of text) = omega (arith, length-digits text, ap length e) in
    ap (λ n. take n text) count
    ∙ ap (take (length (digits_of text))) (sym (digit_parts text))
    ∙ take-append_seam (digits_of text) (past_digits text)

-- and both are the text
pub digits_parted : (text rest : List ℕ) → rest ≡ past_digits text → text ≡ take (length text - length rest) text ++ rest
digits_parted text rest e =
    sym (ap (λ w. w ++ rest) (digits_taken text rest e) ∙ ap (λ r. digits_of text ++ r) e ∙ digit_parts text)

-- the word of the digits writes their number
pub digits_number : (text rest : List ℕ) (value : ℕ) → rest ≡ past_digits text → value ≡ value_after 0 (digits_of text)
    → (length text - length rest ≡ 0 → ⊥) → IsNumber (take (length text - length rest) text) value
digits_number text rest value e v some =
    let word = digits_taken text rest e in
    record {
      digits = ap (list_all is_digit) word ∙ digits_are text;
      some = omega (arith, ap length word, length-digits text, ap length e, some);
      value = v ∙ sym (ap (value_after 0) word);
    }

-- digits behind a number do not lessen it
value_grows : (n : ℕ) (word : List ℕ) → n ≤ value_after n word
value_grows n [] = omega arith
value_grows n (b ∷ bs) = omega (arith, value_grows (n * 10 + (b - 48)) bs)

-- digits whose first write a large number write none that is small
pub too_large : (text rest : List ℕ) (value : ℕ) → value_after 0 (digits_of text) ≡ value_after value (digits_of rest)
    → 1000000000 ≤ value → IsSmallNumber (digits_of text) → ⊥
too_large text rest value e large p = omega (arith, e, value_grows value (digits_of rest), large, p.small)

-- no digit is no number
pub no_digits : (text rest : List ℕ) → rest ≡ past_digits text → length text - length rest ≡ 0
    → IsSmallNumber (digits_of text) → ⊥
no_digits text rest e none p = omega (arith, length-digits text, ap length e, none, p.some)

-- a blank is no digit
blank_by : (b : ℕ) (k : Bool) → is_blank b ≡ true → is_digit b ≡ k → k ≡ false
blank_by b k e f = grind (arith, nat_tests, e, f)

-- the digits at the front of a text are its first word, whether or not it begins with a blank
front_by : (b : ℕ) (bs : List ℕ) (k : Bool) → is_blank b ≡ k
    → (IsTrue (list_all is_digit (front_of bs)) → (digits_of bs ≡ front_of bs) × IsBroken (past_digits bs))
    → IsTrue (list_all is_digit (cond k [] (b ∷ front_of bs)))
    → (digits_of (b ∷ bs) ≡ cond k [] (b ∷ front_of bs)) × IsBroken (past_digits (b ∷ bs))
front_by b bs true e later p =
    let no = blank_by b (is_digit b) e refl in (
      ap (λ k. cond k (b ∷ digits_of bs) []) no,
      subst IsBroken (sym (ap (λ k. cond k (past_digits bs) (b ∷ bs)) no)) e,
    )
front_by b bs false e later p =
    let q = and_parts (is_digit b) (list_all is_digit (front_of bs)) p in
    let r = later q.1 in (
      ap (λ k. cond k (b ∷ digits_of bs) []) q.0 ∙ ap (λ k. b ∷ k) r.0,
      subst IsBroken (sym (ap (λ k. cond k (past_digits bs) (b ∷ bs)) q.0)) r.1,
    )

-- a word of digits alone ends where its digits do
pub front_digits : (line : List ℕ) → IsTrue (list_all is_digit (front_of line))
    → (digits_of line ≡ front_of line) × IsBroken (past_digits line)
front_digits [] p = (refl, tt {0})
front_digits (b ∷ bs) p = front_by b bs (is_blank b) refl (front_digits bs) p
