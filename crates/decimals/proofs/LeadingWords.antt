-- A text that begins with a short decimal, behind which stands a byte that is in none.
use Rattle.std.proofs.Common.{◌^◌, ℤ, Ok, arith, ◌≡◌, ◌≤◌, ◌<◌, ◌-◌, ◌==◌, ◌||◌, ◌&&◌, ◌++◌, ◌∷◌, [], List, length, take, cond, not, IsTrue, ℕ, Bool, true, false, refl, sym, ap, ◌∙◌, subst, append_assoc, length-append, take_all, drop, slice_index_or}
use Rattle.std.specs.List.{list_all}
use Rattle.std.proofs.Math.Seq.{take-append_seam}
use Rattle.std.proofs.lemmas.Bool.Decides.{nat_tests}
use Rattle.text_words.specs.Lines.{is_word, is_blank}
use Rattle.text_words.specs.PlainLines.{IsPlainWord}
use Rattle.text_words.specs.Numbers.{is_digit, value_after, starts_minus, past_sign, digits_of, past_digits}
use Rattle.text_words.proofs.DigitRuns.{digit_parts}
use Rattle.text_words.proofs.PlainLines.{all_pass}
use Rattle.decimals.specs.Decimals.{fraction_of, past_fraction, whole_part, fraction_part, ending_part, mantissa_digits}
use Rattle.decimals.specs.Fractions.{nearest_step, scaled}
use Rattle.decimals.specs.Values.{brought_in, grid_of}
use Rattle.decimals.specs.Rounding.{IsFront, IsReadAs}
use Rattle.decimals.specs.declared.decimal.Decimal.{Decimal}
use Rattle.decimals.proofs.Words.{front_read, value_of_word}

-- ---- the parts of a text behind whose word such a byte stands are those of the word

-- a byte of at most 32 is no digit
no_digit : (s : ℕ) → s ≤ 32 → is_digit s ≡ false
no_digit s low = grind (arith, nat_tests, low)

-- a byte of at most 32 is no point
no_point : (s : ℕ) → s ≤ 32 → (s == 46) ≡ false
no_point s low = grind (arith, nat_tests, low)

-- a byte of at most 32 is no sign
no_sign : (s : ℕ) → s ≤ 32 → (s == 43 || s == 45) ≡ false
no_sign s low = grind (arith, nat_tests, low)

-- a byte of at most 32 is no '-'
no_minus : (s : ℕ) → s ≤ 32 → (s == 45) ≡ false
no_minus s low = grind (arith, nat_tests, low)

-- the digits at the front of a text are those of the word before such a byte
digits_stop : (s : ℕ) (rest word : List ℕ) → s ≤ 32 → digits_of (word ++ s ∷ rest) ≡ digits_of word
digits_stop s rest [] low = ap (λ k. cond k (s ∷ digits_of rest) []) (no_digit s low)
digits_stop s rest (b ∷ bs) low = ap (λ t. cond (is_digit b) (b ∷ t) []) (digits_stop s rest bs low)

-- a word's end goes on into the rest, whether its first byte and the digits behind it are passed or not
behind_by : (k : Bool) (b s : ℕ) (rest bs xs : List ℕ) → xs ≡ past_digits bs ++ s ∷ rest
    → cond k xs (b ∷ (bs ++ s ∷ rest)) ≡ cond k (past_digits bs) (b ∷ bs) ++ s ∷ rest
behind_by true b s rest bs xs e = e
behind_by false b s rest bs xs e = refl

-- what follows the digits at the front is what follows them in the word, and then the byte and the rest
past_stop : (s : ℕ) (rest word : List ℕ) → s ≤ 32 → past_digits (word ++ s ∷ rest) ≡ past_digits word ++ s ∷ rest
past_stop s rest [] low = ap (λ k. cond k (past_digits rest) (s ∷ rest)) (no_digit s low)
past_stop s rest (b ∷ bs) low =
    behind_by (is_digit b) b s rest bs (past_digits (bs ++ s ∷ rest)) (past_stop s rest bs low)

-- the digits behind a point at the front are those of the word
fraction_stop : (s : ℕ) (rest word : List ℕ) → s ≤ 32 → fraction_of (word ++ s ∷ rest) ≡ fraction_of word
fraction_stop s rest [] low = ap (λ k. cond k (digits_of rest) []) (no_point s low)
fraction_stop s rest (b ∷ bs) low = ap (λ t. cond (b == 46) t []) (digits_stop s rest bs low)

-- what follows such a point and its digits is what follows them in the word, and then the byte and the rest
past_fraction_stop : (s : ℕ) (rest word : List ℕ) → s ≤ 32
    → past_fraction (word ++ s ∷ rest) ≡ past_fraction word ++ s ∷ rest
past_fraction_stop s rest [] low = ap (λ k. cond k (past_digits rest) (s ∷ rest)) (no_point s low)
past_fraction_stop s rest (b ∷ bs) low =
    behind_by (b == 46) b s rest bs (past_digits (bs ++ s ∷ rest)) (past_stop s rest bs low)

-- a word's end goes on into the rest, whether its first byte is passed or not
sign_by : (k : Bool) (b s : ℕ) (rest bs : List ℕ)
    → cond k (bs ++ s ∷ rest) (b ∷ (bs ++ s ∷ rest)) ≡ cond k bs (b ∷ bs) ++ s ∷ rest
sign_by true b s rest bs = refl
sign_by false b s rest bs = refl

-- what follows a sign at the front is what follows it in the word, and then the byte and the rest
sign_stop : (s : ℕ) (rest word : List ℕ) → s ≤ 32 → past_sign (word ++ s ∷ rest) ≡ past_sign word ++ s ∷ rest
sign_stop s rest [] low = ap (λ k. cond k rest (s ∷ rest)) (no_sign s low)
sign_stop s rest (b ∷ bs) low = sign_by (b == 43 || b == 45) b s rest bs

-- a text begins with '-' exactly where its word does
minus_stop : (s : ℕ) (rest word : List ℕ) → s ≤ 32 → starts_minus (word ++ s ∷ rest) ≡ starts_minus word
minus_stop s rest [] low = no_minus s low
minus_stop s rest (b ∷ bs) low = refl

-- the digits before the point are those of the word
whole_stop : (s : ℕ) (rest word : List ℕ) → s ≤ 32 → whole_part (word ++ s ∷ rest) ≡ whole_part word
whole_stop s rest word low = ap digits_of (sign_stop s rest word low) ∙ digits_stop s rest (past_sign word) low

-- what follows the digits before the point is what follows them in the word, and then the byte and the rest
point_stop : (s : ℕ) (rest word : List ℕ) → s ≤ 32
    → past_digits (past_sign (word ++ s ∷ rest)) ≡ past_digits (past_sign word) ++ s ∷ rest
point_stop s rest word low = ap past_digits (sign_stop s rest word low) ∙ past_stop s rest (past_sign word) low

-- the digits behind the point are those of the word
fraction_part_stop : (s : ℕ) (rest word : List ℕ) → s ≤ 32 → fraction_part (word ++ s ∷ rest) ≡ fraction_part word
fraction_part_stop s rest word low =
    ap fraction_of (point_stop s rest word low) ∙ fraction_stop s rest (past_digits (past_sign word)) low

-- what follows the digits and the point is what follows them in the word, and then the byte and the rest
ending_stop : (s : ℕ) (rest word : List ℕ) → s ≤ 32 → ending_part (word ++ s ∷ rest) ≡ ending_part word ++ s ∷ rest
ending_stop s rest word low =
    ap past_fraction (point_stop s rest word low) ∙ past_fraction_stop s rest (past_digits (past_sign word)) low

-- the digits before and behind the point, taken together, are those of the word
mantissa_stop : (s : ℕ) (rest word : List ℕ) → s ≤ 32 → mantissa_digits (word ++ s ∷ rest) ≡ mantissa_digits word
mantissa_stop s rest word low =
    ap (λ w. w ++ fraction_part (word ++ s ∷ rest)) (whole_stop s rest word low)
    ∙ ap (λ f. whole_part word ++ f) (fraction_part_stop s rest word low)

-- a list that is put before some bytes and changes nothing is empty
none_more : (xs : List ℕ) (s : ℕ) (rest : List ℕ) → xs ++ s ∷ rest ≡ s ∷ rest → xs ≡ []
none_more [] s rest e = refl
none_more (b ∷ bs) s rest e = absurd (omega (arith, ap length e, length-append (b ∷ bs) (s ∷ rest)))

-- ---- what follows a decimal is the end of the text

-- the text is something, and then this
abbrev EndsWith : List ℕ → List ℕ → Type 0
EndsWith text rest = (front : List ℕ) × (text ≡ front ++ rest)

-- a text ends with what its end ends with
ends_on : (text more rest : List ℕ) → EndsWith text more → EndsWith more rest → EndsWith text rest
ends_on text more rest p q =
    (p.0 ++ q.0, p.1 ∙ ap (λ t. p.0 ++ t) q.1 ∙ sym (append_assoc p.0 q.0 rest))

-- a text ends with what follows the sign at its front
sign_ends : (text : List ℕ) → EndsWith text (past_sign text)
sign_ends [] = ([], refl)
sign_ends (b ∷ bs) =
    elim (b == 43 || b == 45) as (λ k. EndsWith (b ∷ bs) (cond k bs (b ∷ bs))) [ true ↦ (b ∷ [], refl) | false ↦ ([], refl) ]

-- a text ends with what follows the digits at its front
digits_end : (text : List ℕ) → EndsWith text (past_digits text)
digits_end text = (digits_of text, sym (digit_parts text))

-- a text ends with what follows the point at its front and the digits behind it
fraction_ends : (text : List ℕ) → EndsWith text (past_fraction text)
fraction_ends [] = ([], refl)
fraction_ends (b ∷ bs) =
    elim (b == 46) as (λ k. EndsWith (b ∷ bs) (cond k (past_digits bs) (b ∷ bs))) [
      | true ↦ (b ∷ digits_of bs, ap (λ t. b ∷ t) (sym (digit_parts bs)))
      | false ↦ ([], refl)
    ]

-- a text ends with what follows its sign and the digits before and behind its point
ending_ends : (text : List ℕ) → EndsWith text (ending_part text)
ending_ends text =
    ends_on text (past_sign text) (ending_part text) (sign_ends text)
    (ends_on (past_sign text) (past_digits (past_sign text)) (ending_part text) (digits_end (past_sign text))
    (fraction_ends (past_digits (past_sign text))))

-- a text is its first bytes, as many as it is longer than its end, and then that end
front_taken : (text rest : List ℕ) → EndsWith text rest → text ≡ take (length text - length rest) text ++ rest
front_taken text rest p =
    let count : length text - length rest ≡ length p.0 = omega (arith, ap length p.1, length-append p.0 rest) in
    let front : take (length text - length rest) text ≡ p.0 =
    ap (λ n. take n text) count ∙ ap (take (length p.0)) p.1 ∙ take-append_seam p.0 rest in
    p.1 ∙ ap (λ w. w ++ rest) (sym front)

-- the word of the decimal that a text begins with, which ends before the rest
abbrev pub word_of : List ℕ → List ℕ → List ℕ
word_of text rest = take (length text - length rest) text

-- the text is that word and then the rest
pub word_parted : (text rest : List ℕ) → rest ≡ ending_part text → text ≡ word_of text rest ++ rest
word_parted text rest e = front_taken text rest (subst (EndsWith text) (sym e) (ending_ends text))

-- the rest is within the text
pub rest_within : (text rest : List ℕ) → rest ≡ ending_part text → length rest ≤ length text
rest_within text rest e =
    let p = subst (EndsWith text) (sym e) (ending_ends text) in omega (arith, ap length p.1, length-append p.0 rest)

-- where the byte follows the decimal at the front of a text, the word before it begins with that and ends there
front_of_word : (word : List ℕ) (d : Decimal) (s : ℕ) (rest : List ℕ) → s ≤ 32
    → IsFront (word ++ s ∷ rest) d (s ∷ rest) → IsFront word d []
front_of_word word d s rest low p = record {
  minus = p.minus ∙ minus_stop s rest word low;
  mantissa = p.mantissa ∙ ap (value_after 0) (mantissa_stop s rest word low);
  places = p.places ∙ ap length (fraction_part_stop s rest word low);
  some = sym (ap is_word (mantissa_stop s rest word low)) ∙ p.some;
  rest_is = sym (none_more (ending_part word) s rest (sym (ending_stop s rest word low) ∙ sym p.rest_is));
  few = p.few;
  raised = p.raised;
  lowered = p.lowered;
}

-- that word by itself begins with the same decimal, which is all of it
pub word_front : (text : List ℕ) (d : Decimal) (rest : List ℕ) (s : ℕ) (behind : List ℕ) → IsFront text d rest
    → rest ≡ s ∷ behind → s ≤ 32 → IsFront (word_of text rest) d []
word_front text d rest s behind p e low =
    let parted : text ≡ word_of text rest ++ s ∷ behind =
    word_parted text rest p.rest_is ∙ ap (λ r. word_of text rest ++ r) e in
    front_of_word (word_of text rest) d s behind low
    (subst (λ t. IsFront t d (s ∷ behind)) parted (subst (IsFront text d) e p))

-- a text by its first byte and the slice behind it
pub first_parted : (s : ℕ) (text : List ℕ) → 1 ≤ length text → slice_index_or text 0 0 ≡ s
    → text ≡ s ∷ take (length text - 1) (drop 1 text)
first_parted s [] some e = absurd (omega (arith, some))
first_parted s (b ∷ bs) some e =
    let count : length (b ∷ bs) - 1 ≡ length bs = omega arith in
    ap (λ k. k ∷ bs) e ∙ ap (λ t. s ∷ t) (sym (ap (λ n. take n bs) count ∙ take_all (length bs) bs (omega arith)))

-- ---- such a word is plain

-- the byte is no blank, no line feed, no '#' and no '\'
abbrev plain_byte : ℕ → Bool
plain_byte b = not (is_blank b) && (not (b == 10) && (not (b == 35) && not (b == 92)))

-- a digit is a plain byte
digit_plain : (b : ℕ) → is_digit b ≡ true → plain_byte b ≡ true
digit_plain b e = grind (arith, nat_tests, e)

-- a point is a plain byte
point_plain : (b : ℕ) → (b == 46) ≡ true → plain_byte b ≡ true
point_plain b e = grind (arith, nat_tests, e)

-- a sign is a plain byte
sign_plain : (b : ℕ) → (b == 43 || b == 45) ≡ true → plain_byte b ≡ true
sign_plain b e = grind (arith, nat_tests, e)

-- two tests that each pass pass together
both : (x y : Bool) → x ≡ true → y ≡ true → (x && y) ≡ true
both true y e f = f
both false y e f = absurd (cc)

-- one byte more before a text that is plain where what follows its digits is, by whether it is a digit
plain_digits_by : (b : ℕ) (bs : List ℕ) (k : Bool) → is_digit b ≡ k
    → (IsTrue (list_all plain_byte (past_digits bs)) → IsTrue (list_all plain_byte bs))
    → IsTrue (list_all plain_byte (cond k (past_digits bs) (b ∷ bs))) → IsTrue (list_all plain_byte (b ∷ bs))
plain_digits_by b bs true e later p = both (plain_byte b) (list_all plain_byte bs) (digit_plain b e) (later p)
plain_digits_by b bs false e later p = p

-- a text is plain where what follows the digits at its front is
plain_digits : (text : List ℕ) → IsTrue (list_all plain_byte (past_digits text)) → IsTrue (list_all plain_byte text)
plain_digits [] p = p
plain_digits (b ∷ bs) p = plain_digits_by b bs (is_digit b) refl (plain_digits bs) p

-- a text is plain where what follows its point and digits is, by whether its first byte is a point
plain_fraction_by : (b : ℕ) (bs : List ℕ) (k : Bool) → (b == 46) ≡ k
    → IsTrue (list_all plain_byte (cond k (past_digits bs) (b ∷ bs))) → IsTrue (list_all plain_byte (b ∷ bs))
plain_fraction_by b bs true e p = both (plain_byte b) (list_all plain_byte bs) (point_plain b e) (plain_digits bs p)
plain_fraction_by b bs false e p = p

-- a text is plain where what follows the point at its front and the digits behind it is
plain_fraction : (text : List ℕ) → IsTrue (list_all plain_byte (past_fraction text)) → IsTrue (list_all plain_byte text)
plain_fraction [] p = p
plain_fraction (b ∷ bs) p = plain_fraction_by b bs (b == 46) refl p

-- a text is plain where what follows its sign is, by whether its first byte is a sign
plain_sign_by : (b : ℕ) (bs : List ℕ) (k : Bool) → (b == 43 || b == 45) ≡ k
    → IsTrue (list_all plain_byte (cond k bs (b ∷ bs))) → IsTrue (list_all plain_byte (b ∷ bs))
plain_sign_by b bs true e p = both (plain_byte b) (list_all plain_byte bs) (sign_plain b e) p
plain_sign_by b bs false e p = p

-- a text is plain where what follows the sign at its front is
plain_sign : (text : List ℕ) → IsTrue (list_all plain_byte (past_sign text)) → IsTrue (list_all plain_byte text)
plain_sign [] p = p
plain_sign (b ∷ bs) p = plain_sign_by b bs (b == 43 || b == 45) refl p

-- a word with nothing behind its sign, its digits and its point holds plain bytes alone
plain_bytes : (word : List ℕ) → ending_part word ≡ [] → IsTrue (list_all plain_byte word)
plain_bytes word e = plain_sign word (plain_digits (past_sign word)
    (plain_fraction (past_digits (past_sign word)) (ap (list_all plain_byte) e)))

-- the first of two tests passes where both do
first_test : (x y : Bool) → (x && y) ≡ true → x ≡ true
first_test true y e = refl
first_test false y e = absurd (cc)

-- the second of two tests passes where both do
second_test : (x y : Bool) → (x && y) ≡ true → y ≡ true
second_test true y e = e
second_test false y e = absurd (cc)

-- a word with a digit before or behind its point is not empty
some_word : (word : List ℕ) → is_word (mantissa_digits word) ≡ true → 0 < length word
some_word [] e = absurd (cc)
some_word (b ∷ bs) e = omega arith

-- neither a blank nor a line feed stands in it, nor a '#' or a '\'
pub word_plain : (word : List ℕ) (d : Decimal) → IsFront word d [] → IsPlainWord word
word_plain word d p =
    let all = plain_bytes word (sym p.rest_is) in
    record {
      some = some_word word p.some;
      unbroken = all_pass plain_byte (λ b. not (is_blank b)) (λ b. first_test (not (is_blank b)) _) word all;
      one = all_pass plain_byte (λ b. not (b == 10))
          (λ b e. first_test (not (b == 10)) _ (second_test (not (is_blank b)) _ e)) word all;
      plain = all_pass plain_byte (λ b. not (b == 35) && not (b == 92))
          (λ b e. second_test (not (b == 10)) _ (second_test (not (is_blank b)) _ e)) word all;
    }

-- and it is read as that decimal
word_read : (word : List ℕ) (d : Decimal) → IsFront word d [] → IsReadAs word d
word_read word d p = front_read word d [] p refl

-- and has the value of its parts
pub short_value : (unit : ℕ) (word : List ℕ) (d : Decimal) (v : ℤ) → unit < 2 ^ 32 → d.places < 2 ^ 64
    → IsFront word d [] → v ≡ brought_in (nearest_step unit (scaled d.minus d.mantissa d.places d.raised d.lowered))
    → Ok v ≡ grid_of unit word
short_value unit word d v narrow near p e =
    let few = p.few in
    value_of_word unit word d v narrow near (word_read word d p) (omega (arith, few)) e
