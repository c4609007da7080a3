-- A word of digits alone, read digit by digit.
use Rattle.std.proofs.Common.{◌≡◌, ℕ, Bool, true, false, not, ◌&&◌, List, [], ◌∷◌, IsTrue, refl, ap, ◌∙◌, arith}
use Rattle.std.specs.List.{list_all}
use Rattle.std.proofs.lemmas.Bool.{and_parts}
use Rattle.std.proofs.lemmas.Bool.Decides.{nat_tests}
use Rattle.text_words.specs.Lines.{is_blank}
use Rattle.text_words.specs.Joins.{JoinedLine}
use Rattle.text_words.specs.Parts.{left_of}
use Rattle.text_words.specs.Numbers.{is_digit}
use Rattle.text_words.specs.ThreeNumbers.{AreThreeNumbers}
use Rattle.text_words.proofs.Joining.{word_left}

-- a byte that is a digit does not pass for a blank
digit_by : (b : ℕ) (k : Bool) → is_digit b ≡ true → is_blank b ≡ k → k ≡ false
digit_by b k e f = grind (arith, nat_tests, e, f)

-- a digit is no blank
pub digit_not_blank : (b : ℕ) → is_digit b ≡ true → is_blank b ≡ false
digit_not_blank b e = digit_by b (is_blank b) e refl

-- a byte that is no blank goes before bytes that are none
not_blank : (b : Bool) (rest : Bool) → b ≡ false → rest ≡ true → (not b && rest) ≡ true
not_blank true rest e f = absurd (cc)
not_blank false rest e f = f

-- no blank stands in digits
pub digits_unbroken : (word : List ℕ) → IsTrue (list_all is_digit word)
    → IsTrue (list_all (λ b. not (is_blank b)) word)
digits_unbroken [] p = p
digits_unbroken (b ∷ bs) p =
    let q = and_parts (is_digit b) (list_all is_digit bs) p in
    not_blank (is_blank b) (list_all (λ c. not (is_blank c)) bs) (digit_not_blank b q.0) (digits_unbroken bs q.1)

-- three words of the line at hand are the first of those that are left
pub numbers_left : (k : Bool) (all : List (List ℕ)) (a b c : ℕ) (words : List (List ℕ)) (later : List JoinedLine)
    → AreThreeNumbers all a b c words → AreThreeNumbers (left_of all k later).words a b c (left_of words k later).words
numbers_left k all a b c words later p = record {
  first = p.first;
  second = p.second;
  third = p.third;
  words_are = word_left k all p.first (p.second ∷ p.third ∷ words) later p.words_are
      ∙ ap (λ w. p.first ∷ w) (word_left k _ p.second (p.third ∷ words) later refl
      ∙ ap (λ w. p.second ∷ w) (word_left k _ p.third words later refl));
  a_is = p.a_is;
  b_is = p.b_is;
  c_is = p.c_is;
}
