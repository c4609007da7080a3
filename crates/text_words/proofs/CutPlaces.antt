-- Where a text may be cut: the line feeds of its rest, one after another.
use Rattle.std.proofs.Common.{◌≡◌, ◌<◌, ◌≤◌, ℕ, ◌+◌, ◌-◌, ◌/◌, true, false, List, [], ◌∷◌, ◌++◌, ◌==◌, map, length, take, drop, slice_index, sym, ap, ◌∙◌, inl, inr, take_all, length-drop, length-take-le, arith}
use Rattle.std.proofs.lemmas.List.{get_or-drop, take_more}
use Rattle.std.proofs.lemmas.Bool.{cases_lt}
use Rattle.std.proofs.lemmas.Bool.Decides.{nat_tests}
use Rattle.text_words.specs.Lines.{lines_of}
use Rattle.text_words.specs.Joins.{joined_lines_of}
use Rattle.text_words.specs.Halves.{moved_by, may_join, IsCutPlace}
use Rattle.text_words.proofs.FirstBytes.{parted_slices}
use Rattle.text_words.proofs.Halving.{joined_parted}

-- what stands behind a place of a text
abbrev pub rest_of : List ℕ → ℕ → List ℕ
rest_of text from = take (length text - from) (drop from text)

-- as a slice it is what is left of the text there
rest_is : (text : List ℕ) (from : ℕ) → rest_of text from ≡ drop from text
rest_is text from = take_all (length text - from) (drop from text) (omega (arith, length-drop from text))

-- it is as long as the rest of the text
length-rest_of : (text : List ℕ) (from : ℕ) → length (rest_of text from) ≡ length text - from
length-rest_of text from = ap length (rest_is text from) ∙ length-drop from text

-- its bytes are those of the text from there on
byte_behind : (text : List ℕ) (from k : ℕ) → slice_index (rest_of text from) k ≡ slice_index text (from + k)
byte_behind text from k = ap (λ t. slice_index t k) (rest_is text from) ∙ get_or-drop from text k 0

-- a byte that is found is a line feed
is_feed : (b : ℕ) → (b == 10) ≡ true → b ≡ 10
is_feed b e = grind (arith, nat_tests, e)

-- the next line feed of a text that may be cut only behind it
pub record IsNextFeed (text : List ℕ) (at : ℕ) : Type 0 where
  pub inside : at < length text
  pub feed : slice_index text at ≡ 10
  pub none : (place : ℕ) → IsCutPlace text place → at < place

-- a text that may be cut only behind a place is not cut before the first line feed there
none_before : (text : List ℕ) (from ahead : ℕ) → ((place : ℕ) → IsCutPlace text place → from < place)
    → ((k : ℕ) → 0 ≤ k → k < ahead → (slice_index (rest_of text from) k == 10) ≡ true → ⊥)
    → (place : ℕ) → IsCutPlace text place → from + ahead < place
none_before text from ahead none nowhere place p =
    let low = none place p in
    let here : from + (place - 1 - from) ≡ place - 1 = omega (arith, low) in
    let feed : slice_index (rest_of text from) (place - 1 - from) ≡ 10 =
    byte_behind text from (place - 1 - from) ∙ ap (slice_index text) here ∙ p.feed in
    elim (cases_lt (from + ahead) place) [
      | inl lt ↦ lt
      | inr ge ↦
          absurd (nowhere (place - 1 - from) (omega arith) (omega (arith, low, ge)) (ap (λ b. b == 10) feed))
    ]

-- the first line feed of the rest is the next of the text
pub next_feed : (text : List ℕ) (from ahead : ℕ) → ((place : ℕ) → IsCutPlace text place → from < place)
    → ((k : ℕ) → 0 ≤ k → k < ahead → (slice_index (rest_of text from) k == 10) ≡ true → ⊥)
    → ahead < length (rest_of text from) → (slice_index (rest_of text from) ahead == 10) ≡ true
    → IsNextFeed text (from + ahead)
next_feed text from ahead none nowhere lt e = record {
  inside = omega (arith, length-rest_of text from, lt);
  feed = sym (byte_behind text from ahead) ∙ is_feed (slice_index (rest_of text from) ahead) e;
  none = none_before text from ahead none nowhere;
}

-- where it might join two lines, the text is not cut behind it
pub none_joined : (text : List ℕ) (at : ℕ) → IsNextFeed text at → may_join (take at text) ≡ true
    → (place : ℕ) → IsCutPlace text place → at + 1 < place
none_joined text at next joins place p =
    elim (cases_lt (at + 1) place) [
      | inl lt ↦ lt
      | inr ge ↦
          let same : place - 1 ≡ at = omega (arith, ge, next.none place p) in
          let no : true ≡ false = sym joins ∙ sym (ap (λ k. may_join (take k text)) same) ∙ p.apart in
          absurd (cc)
    ]

-- a text that may be cut only behind a place, and has no line feed there, is not cut
pub none_left : (text : List ℕ) (from : ℕ) → from ≤ length text
    → ((place : ℕ) → IsCutPlace text place → from < place)
    → ((k : ℕ) → 0 ≤ k → k < length (rest_of text from) → (slice_index (rest_of text from) k == 10) ≡ true → ⊥)
    → (place : ℕ) → IsCutPlace text place → ⊥
none_left text from le none nowhere place p =
    omega (
      arith,
      none_before text from (length (rest_of text from)) none nowhere place p,
      length-rest_of text from,
      p.inside,
      le,
    )

-- the front of a text up to a line feed within is as long as that
pub length-cut : (text : List ℕ) (at : ℕ) → at < length text → length (take (at + 1) text) ≡ at + 1
length-cut text at lt = length-take-le (at + 1) text (omega (arith, lt))

-- else it may be cut right behind it
pub cut_behind : (text : List ℕ) (at : ℕ) → IsNextFeed text at → length text / 2 ≤ at → may_join (take at text) ≡ false
    → IsCutPlace text (length (take (at + 1) text))
cut_behind text at next past apart =
    let long = length-cut text at next.inside in
    let here : at ≡ length (take (at + 1) text) - 1 = omega (arith, long) in
    record {
      past = omega (arith, long, past);
      inside = omega (arith, long, next.inside);
      feed = ap (slice_index text) (sym here) ∙ next.feed;
      apart = ap (λ k. may_join (take k text)) (sym here) ∙ apart;
    }

-- and its joined lines are those before it and then those behind it
pub lines_cut : (text : List ℕ) (at : ℕ) → IsNextFeed text at → may_join (take at text) ≡ false
    → joined_lines_of text ≡ joined_lines_of (take (at + 1) text)
    ++ map (moved_by (length (lines_of (take (at + 1) text)))) (joined_lines_of (rest_of text (at + 1)))
lines_cut text at next apart =
    let rest = rest_of text (at + 1) in
    let front : take at text ++ 10 ∷ [] ≡ take (at + 1) text =
    sym (take_more text at 0 next.inside ∙ ap (λ b. take at text ++ b ∷ []) next.feed) in
    ap joined_lines_of (parted_slices text at next.inside next.feed) ∙ joined_parted (take at text) rest apart
    ∙ ap (λ t. joined_lines_of t ++ map (moved_by (length (lines_of t))) (joined_lines_of rest)) front
