-- The word that a line begins with, and what its digits write.
use Rattle.std.proofs.Common.{◌≡◌, ℕ, Bool, true, false, ◌&&◌, List, [], ◌∷◌, IsTrue, cond, filter, Option, Some, None, IfNone, refl, sym, ap, ◌∙◌, subst}
use Rattle.std.specs.List.{list_all, slice_split, onto_first}
use Rattle.std.proofs.lemmas.Bool.{and_parts}
use Rattle.text_words.specs.Lines.{is_blank, is_word, words_of}
use Rattle.text_words.specs.Cuts.{front_of, IsPastBlanks}
use Rattle.text_words.specs.Numbers.{is_digit}
use Rattle.text_words.specs.ThreeNumbers.{IsSmallNumber, BeginSmall}
use Rattle.text_words.proofs.DigitWords.{digit_not_blank}

-- the front of a line that begins with a byte that is no blank
front_more : (b : ℕ) (bs : List ℕ) → is_blank b ≡ false → front_of (b ∷ bs) ≡ b ∷ front_of bs
front_more b bs e = ap (λ k. cond k [] (b ∷ front_of bs)) e

-- the first part of a line cut at blanks is its front, whether or not it begins with a blank
split_by : (b : ℕ) (k : Bool) (front : List ℕ) (xs rest : List (List ℕ)) → xs ≡ front ∷ rest
    → (behind : List (List ℕ)) × (cond k ([] ∷ xs) (onto_first b xs) ≡ cond k [] (b ∷ front) ∷ behind)
split_by b true front xs rest e = (xs, refl)
split_by b false front xs rest e = (rest, ap (onto_first b) e)

-- the first part of a line cut at blanks
split_front : (line : List ℕ) → (behind : List (List ℕ)) × (slice_split is_blank line ≡ front_of line ∷ behind)
split_front [] = ([], refl)
split_front (b ∷ bs) =
    let more = split_front bs in
    split_by b (is_blank b) (front_of bs) (slice_split is_blank bs) more.0 more.1

-- a line past its blanks begins with its first word
pub small_front : (line : List ℕ) → IsPastBlanks line → BeginSmall 1 (words_of line) → IsSmallNumber (front_of line)
small_front [] past p = absurd p
small_front (b ∷ bs) past p =
    let cut = split_front (b ∷ bs) in
    let front = front_more b bs past in
    let words : words_of (b ∷ bs) ≡ (b ∷ front_of bs) ∷ filter is_word cut.0 =
    ap (filter is_word) cut.1 ∙ ap (λ w. filter is_word (w ∷ cut.0)) front in
    let small = subst (BeginSmall 1) words p in
    subst IsSmallNumber (sym front) small.0

-- digits have no blank behind them
pub front_all : (word : List ℕ) → IsTrue (list_all is_digit word) → front_of word ≡ word
front_all [] p = refl
front_all (b ∷ bs) p =
    let here = and_parts (is_digit b) (list_all is_digit bs) p in
    front_more b bs (digit_not_blank b here.0) ∙ ap (λ k. b ∷ k) (front_all bs here.1)

-- what a `None` refutes, said of another fact
pub refuted : (A : Type 0) (r : Option A) (P Q : Type 0) → (Q → P) → IfNone r (P → ⊥) → IfNone r (Q → ⊥)
refuted A None P Q f none = λ q. none (f q)
refuted A (Some x) P Q f none = none
