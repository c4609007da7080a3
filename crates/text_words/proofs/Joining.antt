-- The words of joined lines, taken line by line.
use Rattle.std.proofs.Common.{◌≡◌, ◌≤◌, ℕ, ◌+◌, Bool, true, false, List, [], ◌∷◌, ◌++◌, cond, filter, map, length, refl, sym, ap, ◌∙◌, arith}
use Rattle.std.proofs.lemmas.List.{length-map}
use Rattle.std.specs.List.{slice_split, onto_first}
use Rattle.text_words.specs.Lines.{is_blank, is_word, words_of, lines_of}
use Rattle.text_words.specs.Joins.{said, joins, joined, joined_with, with_words, joined_lines, joined_lines_of, JoinedLine}
use Rattle.text_words.specs.Parts.{left_of}
use Rattle.text_words.proofs.Cuts.{length-lines_of}

-- a line that begins with that byte has a first part, where the rest of it has one
some_by : (b : ℕ) (k : Bool) (xs : List (List ℕ))
    → ((first : List ℕ) × (rest : List (List ℕ)) × (xs ≡ first ∷ rest))
    → (first : List ℕ) × (rest : List (List ℕ)) × (cond k ([] ∷ xs) (onto_first b xs) ≡ first ∷ rest)
some_by b true xs p = ([], xs, refl)
some_by b false xs p = (b ∷ p.0, p.1, ap (onto_first b) p.2)

-- a line cut at blanks has a first part
split_some : (line : List ℕ) → (first : List ℕ) × (rest : List (List ℕ)) × (slice_split is_blank line ≡ first ∷ rest)
split_some [] = ([], [], refl)
split_some (b ∷ bs) = some_by b (is_blank b) (slice_split is_blank bs) (split_some bs)

-- a byte before parts that are those of two texts goes to the first of them
split_by : (b : ℕ) (k : Bool) (xs ys both : List (List ℕ)) (first : List ℕ) (rest : List (List ℕ)) → xs ≡ first ∷ rest
    → both ≡ xs ++ ys → cond k ([] ∷ both) (onto_first b both) ≡ cond k ([] ∷ xs) (onto_first b xs) ++ ys
split_by b true xs ys both first rest e p = ap (λ t. [] ∷ t) p
split_by b false xs ys both first rest e p =
    ap (onto_first b) p ∙ ap (λ t. onto_first b (t ++ ys)) e ∙ sym (ap (λ t. onto_first b t ++ ys) e)

-- a space between two texts cuts them apart
split_joined : (xs ys : List ℕ)
    → slice_split is_blank (xs ++ 32 ∷ ys) ≡ slice_split is_blank xs ++ slice_split is_blank ys
split_joined [] ys = refl
-- a space between two texts cuts them apart
split_joined (b ∷ bs) ys =
    let some = split_some bs in
    split_by b (is_blank b) (slice_split is_blank bs) (slice_split is_blank ys) (slice_split is_blank (bs ++ 32 ∷ ys))
    some.0 some.1 some.2 (split_joined bs ys)

-- the words among the parts of two texts are those of the one and then those of the other
keep_both : (xs ys : List (List ℕ)) → filter is_word (xs ++ ys) ≡ filter is_word xs ++ filter is_word ys
keep_both [] ys = refl
-- the words among the parts of two texts are those of the one and then those of the other
keep_both ([] ∷ xs) ys = keep_both xs ys
-- the words among the parts of two texts are those of the one and then those of the other
keep_both ((b ∷ bs) ∷ xs) ys = ap (λ k. (b ∷ bs) ∷ k) (keep_both xs ys)

-- the words of two parts with a space between are those of the one and then those of the other
pub words_joined : (xs ys : List ℕ) → words_of (xs ++ 32 ∷ ys) ≡ words_of xs ++ words_of ys
words_joined xs ys =
    ap (filter is_word) (split_joined xs ys) ∙ keep_both (slice_split is_blank xs) (slice_split is_blank ys)

-- the first of joined lines begins with the first line, whether or not that goes on
begin_by : (number : ℕ) (front : List ℕ) (k : Bool) (later : List (ℕ × List ℕ))
    → map with_words (cond k (joined_with number front later) ((number, front) ∷ later))
    ≡ record { number = number; words = (left_of (words_of front) k (map with_words later)).words }
    ∷ (left_of (words_of front) k (map with_words later)).later
begin_by number front false later = refl
begin_by number front true [] = refl
begin_by number front true (next ∷ later) =
    ap (λ k. record { number = number; words = k } ∷ map with_words later) (words_joined front next.1)

-- the first of joined lines begins with the first line
pub line_begins : (number : ℕ) (line : List ℕ) (lines : List (List ℕ))
    → joined_lines number (line ∷ lines)
    ≡ record {
      number = number;
      words = (left_of (words_of (said line)) (joins line) (joined_lines (number + 1) lines)).words;
    } ∷ (left_of (words_of (said line)) (joins line) (joined_lines (number + 1) lines)).later
line_begins number line lines = begin_by number (said line) (joins line) (joined (number + 1) lines)

-- a joined line goes on with its next part
pub line_goes_on : (number : ℕ) (line : List ℕ) (lines : List (List ℕ))
    → left_of [] true (joined_lines number (line ∷ lines))
    ≡ left_of (words_of (said line)) (joins line) (joined_lines (number + 1) lines)
line_goes_on number line lines = ap (left_of [] true) (line_begins number line lines)

-- a word of the line at hand comes before what is left of it, whether or not the line goes on
word_by : (k : Bool) (word : List ℕ) (words : List (List ℕ)) (later : List JoinedLine)
    → (left_of (word ∷ words) k later).words ≡ word ∷ (left_of words k later).words
word_by false word words later = refl
word_by true word words [] = refl
word_by true word words (line ∷ later) = refl

-- what is left of the line at hand tells nothing of the later lines
later_by : (k : Bool) (xs ys : List (List ℕ)) (later : List JoinedLine)
    → (left_of xs k later).later ≡ (left_of ys k later).later
later_by false xs ys later = refl
later_by true xs ys [] = refl
later_by true xs ys (line ∷ later) = refl

-- a word of the line at hand is the first of those that are left
pub word_left : (k : Bool) (all : List (List ℕ)) (word : List ℕ) (words : List (List ℕ)) (later : List JoinedLine)
    → all ≡ word ∷ words → (left_of all k later).words ≡ word ∷ (left_of words k later).words
word_left k all word words later e = ap (λ w. (left_of w k later).words) e ∙ word_by k word words later

-- words that are read change no later line
pub later_stays : (k : Bool) (xs ys : List (List ℕ)) (later : List JoinedLine)
    → (left_of xs k later).later ≡ (left_of ys k later).later
later_stays = later_by

-- a line joined with the next makes one line more at most
length-joined_with : (number : ℕ) (front : List ℕ) (later : List (ℕ × List ℕ))
    → length (joined_with number front later) ≤ length later + 1
length-joined_with number front [] = omega arith
length-joined_with number front (next ∷ later) = omega arith

-- so does a line that may be joined
length-part : (number : ℕ) (front : List ℕ) (k : Bool) (later : List (ℕ × List ℕ))
    → length (cond k (joined_with number front later) ((number, front) ∷ later)) ≤ length later + 1
length-part number front true later = length-joined_with number front later
length-part number front false later = omega arith

-- there are at most as many joined lines as lines
length-joined : (number : ℕ) (lines : List (List ℕ)) → length (joined number lines) ≤ length lines
length-joined number [] = omega arith
length-joined number (line ∷ lines) =
    omega (
      arith,
      length-part number (said line) (joins line) (joined (number + 1) lines),
      length-joined (number + 1) lines,
    )

-- a text has at most as many joined lines as bytes
pub length-joined_lines_of : (text : List ℕ) → length (joined_lines_of text) ≤ length text
length-joined_lines_of text =
    omega (
      arith,
      length-map (joined 1 (lines_of text)) with_words,
      length-joined 1 (lines_of text),
      length-lines_of text,
    )
