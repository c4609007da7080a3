-- A plain line, put together from its words.
use Rattle.std.proofs.Common.{◌≡◌, ◌+◌, ℕ, Bool, true, false, List, [], ◌∷◌, ◌++◌, ◌==◌, ◌&&◌, not, IsTrue, length, refl, sym, ap, ◌∙◌, append_assoc, append-nil, arith}
use Rattle.std.specs.List.{list_all}
use Rattle.std.proofs.lemmas.Bool.{and_parts, and_from}
use Rattle.std.proofs.lemmas.Bool.Decides.{nat_tests}
use Rattle.text_words.specs.Lines.{is_blank, words_of, lines_of}
use Rattle.text_words.specs.Joins.{said, joined_lines}
use Rattle.text_words.specs.Parts.{left_of}
use Rattle.text_words.specs.Cuts.{IsCut, IsBroken}
use Rattle.text_words.specs.Numbers.{is_digit}
use Rattle.text_words.specs.ThreeNumbers.{IsNumber}
use Rattle.text_words.specs.PlainLines.{IsPlainWord, BeginsWithLine}
use Rattle.text_words.proofs.Cuts.{one_line_more, lines_ended}
use Rattle.text_words.proofs.Spaces.{words_word, words_blank}
use Rattle.text_words.proofs.Plain.{plain_line}
use Rattle.text_words.proofs.Joining.{line_begins}

-- bytes that all pass a test pass each test that follows from it
pub all_pass : (f g : ℕ → Bool) → ((b : ℕ) → f b ≡ true → g b ≡ true) → (bytes : List ℕ)
    → IsTrue (list_all f bytes) → IsTrue (list_all g bytes)
all_pass f g law [] p = p
all_pass f g law (b ∷ bs) p =
    let q = and_parts (f b) (list_all f bs) p in
    and_from (g b) (list_all g bs) (law b q.0) (all_pass f g law bs q.1)

-- so do the bytes of two parts
all_of_both : (f : ℕ → Bool) (xs ys : List ℕ) → IsTrue (list_all f xs) → IsTrue (list_all f ys)
    → IsTrue (list_all f (xs ++ ys))
all_of_both f [] ys p q = q
all_of_both f (b ∷ bs) ys p q =
    let r = and_parts (f b) (list_all f bs) p in
    and_from (f b) (list_all f (bs ++ ys)) r.0 (all_of_both f bs ys r.1 q)

-- a word, and what follows it
cut : (word rest : List ℕ) → IsPlainWord word → IsBroken rest → IsCut (word ++ rest) word rest
cut word rest p ends = record { whole = refl; unbroken = p.unbroken; some = p.some; ends = ends }

-- a line of one word
pub last_word : (word rest : List ℕ) → IsPlainWord word → BeginsWithLine (word ++ 10 ∷ rest) (word ∷ []) rest
last_word word rest p = record {
  line = word;
  whole = refl;
  one = p.one;
  plain = p.plain;
  words_are = ap words_of (sym (append-nil word)) ∙ words_word (word ++ []) word [] (cut word [] p (tt {0}));
}

-- a word and a space before a line
pub word_before : (word text : List ℕ) (words : List (List ℕ)) (rest : List ℕ) → IsPlainWord word
    → BeginsWithLine text words rest → BeginsWithLine (word ++ 32 ∷ text) (word ∷ words) rest
word_before word text words rest p q = record {
  line = word ++ 32 ∷ q.line;
  whole = ap (λ t. word ++ 32 ∷ t) q.whole ∙ sym (append_assoc word (32 ∷ q.line) (10 ∷ rest));
  one = one_line_more word (32 ∷ q.line) p.one q.one;
  plain = all_of_both (λ b. not (b == 35) && not (b == 92)) word (32 ∷ q.line) p.plain q.plain;
  words_are = words_word (word ++ 32 ∷ q.line) word (32 ∷ q.line) (cut word (32 ∷ q.line) p refl)
      ∙ ap (λ w. word ∷ w) (words_blank 32 q.line refl ∙ q.words_are);
}

-- a digit is no blank
digit_unbroken : (b : ℕ) → is_digit b ≡ true → not (is_blank b) ≡ true
digit_unbroken b e = grind (arith, nat_tests, e)

-- a digit is no line feed
digit_one : (b : ℕ) → is_digit b ≡ true → not (b == 10) ≡ true
digit_one b e = grind (arith, nat_tests, e)

-- a digit begins no comment and joins no line
digit_plain : (b : ℕ) → is_digit b ≡ true → (not (b == 35) && not (b == 92)) ≡ true
digit_plain b e = grind (arith, nat_tests, e)

-- digits alone are such a word
pub number_plain : (word : List ℕ) (number : ℕ) → IsNumber word number → IsPlainWord word
number_plain word number p = record {
  some = p.some;
  unbroken = all_pass is_digit (λ b. not (is_blank b)) digit_unbroken word p.digits;
  one = all_pass is_digit (λ b. not (b == 10)) digit_one word p.digits;
  plain = all_pass is_digit (λ b. not (b == 35) && not (b == 92)) digit_plain word p.digits;
}

-- the joined lines of a text that begins with a plain line
pub plain_first : (number : ℕ) (text : List ℕ) (words : List (List ℕ)) (rest : List ℕ) → BeginsWithLine text words rest
    → joined_lines number (lines_of text)
    ≡ record { number = number; words = words } ∷ joined_lines (number + 1) (lines_of rest)
plain_first number text words rest p =
    let plain = plain_line p.line p.plain in
    let later = joined_lines (number + 1) (lines_of rest) in
    ap (joined_lines number) (lines_ended text p.line rest p.one p.whole)
    ∙ line_begins number p.line (lines_of rest)
    ∙ ap (λ k. record { number = number; words = (left_of (words_of (said p.line)) k later).words }
    ∷ (left_of (words_of (said p.line)) k later).later) plain.1
    ∙ ap (λ l. record { number = number; words = words_of l } ∷ later) plain.0
    ∙ ap (λ w. record { number = number; words = w } ∷ later) p.words_are

-- how many lines it has
pub lines_left : (text : List ℕ) (words : List (List ℕ)) (rest : List ℕ) → BeginsWithLine text words rest
    → length (lines_of text) ≡ length (lines_of rest) + 1
lines_left text words rest p = omega (arith, ap length (lines_ended text p.line rest p.one p.whole))
