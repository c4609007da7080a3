-- The words of a line, cut off one after another.
use Rattle.std.proofs.Common.{◌≡◌, ℕ, Bool, true, false, List, [], ◌∷◌, ◌++◌, ◌&&◌, not, cond, filter, IsTrue, refl, sym, ap, ◌∙◌, ◌<◌, length, length-append, arith}
use Rattle.std.specs.List.{slice_split, list_all, onto_first}
use Rattle.text_words.specs.Lines.{is_blank, is_word, words_of}
use Rattle.text_words.specs.Cuts.{IsCut, IsBroken}

-- a blank before a line changes no word
pub words_blank : (b : ℕ) (bs : List ℕ) → is_blank b ≡ true → words_of (b ∷ bs) ≡ words_of bs
words_blank b bs e =
    ap (λ k. filter is_word (cond k ([] ∷ slice_split is_blank bs) (onto_first b (slice_split is_blank bs)))) e

-- the parts behind the first, of a line cut at blanks
abbrev parts_after : List ℕ → List (List ℕ)
parts_after [] = []
parts_after (b ∷ bs) = slice_split is_blank bs

-- the first byte of a text without blanks is none, and the rest has none
no_blank : (b : ℕ) (bs : List ℕ) → IsTrue (list_all (λ c. not (is_blank c)) (b ∷ bs))
    → (is_blank b ≡ false) × IsTrue (list_all (λ c. not (is_blank c)) bs)
no_blank b bs p =
    let rest = IsTrue (list_all (λ c. not (is_blank c)) bs) in
    let same : Bool → Type 0 = λ k. IsTrue (not k && list_all (λ c. not (is_blank c)) bs) → (k ≡ false) × rest in
    elim (is_blank b) as same [ true ↦ λ q. cc | false ↦ λ q. (refl, q) ] p

-- a word is the first part of a line that goes on with a blank or ends
split_word : (word rest : List ℕ) → IsTrue (list_all (λ c. not (is_blank c)) word) → IsBroken rest
    → slice_split is_blank (word ++ rest) ≡ word ∷ parts_after rest
split_word [] [] p q = refl
split_word [] (b ∷ bs) p q = ap (λ k. cond k ([] ∷ slice_split is_blank bs) (onto_first b (slice_split is_blank bs))) q
-- a word is the first part of a line that goes on with a blank or ends
split_word (b ∷ bs) rest p q =
    let r = no_blank b bs p in
    ap (λ k. cond k ([] ∷ slice_split is_blank (bs ++ rest)) (onto_first b (slice_split is_blank (bs ++ rest)))) r.0
    ∙ ap (onto_first b) (split_word bs rest r.1 q)

-- the words among the later parts are those of what follows the word
words_after : (rest : List ℕ) → IsBroken rest → filter is_word (parts_after rest) ≡ words_of rest
words_after [] q = refl
-- the words among the later parts are those of what follows the word
words_after (b ∷ bs) q = sym (words_blank b bs q)

-- a word, and then the words of what follows
pub words_word : (line word rest : List ℕ) → IsCut line word rest → words_of line ≡ word ∷ words_of rest
words_word line [] rest c = grind (arith, c.some)
words_word line (b ∷ bs) rest c =
    ap words_of c.whole ∙ ap (filter is_word) (split_word (b ∷ bs) rest c.unbroken c.ends)
    ∙ ap (λ k. (b ∷ bs) ∷ k) (words_after rest c.ends)

-- what follows a word is shorter than the line
pub cut_shorter : (line word rest : List ℕ) → IsCut line word rest → length rest < length line
cut_shorter line word rest c = omega (arith, ap length c.whole, length-append word rest, c.some)
