-- Sections put behind others, their lines and their vertices.
use Rattle.std.proofs.Common.{◌≡◌, ℕ, ◌+◌, ◌-◌, ◌≤◌, Bool, true, List, [], ◌∷◌, ◌++◌, length, map, take, drop, take_all, refl, sym, ap, ap₂, subst, ◌∙◌, append_assoc, arith}
use Rattle.std.specs.Prelude.{All, Option, None, Some, IfSome, slice_index_or}
use Rattle.std.proofs.lemmas.List.{map-append, take-append-drop}
use Rattle.std.proofs.lemmas.List.Elements.{All-append, All-head, All-tail, All-take, All-drop}
use Rattle.text_words.specs.Joins.{JoinedLine, joined_lines_of}
use Rattle.text_words.specs.Halves.{moved_by}
use Rattle.obj_text.specs.Texts.{vertices_of}
use Rattle.obj_text.specs.Places.{place_behind}
use Rattle.obj_text.specs.Sections.{unnumbered, lines_in, is_counted, IsSection, AreSections}
use Rattle.obj_text.specs.declared.place.Place.{Place}
use Rattle.obj_text.specs.declared.place.Place.TheVariants.{Behind, Anywhere}
use Rattle.obj_text.specs.declared.sections.Section.{Section}
use Rattle.obj_text.proofs.Appending.{vertices_of-append}
use Rattle.obj_text.proofs.Renumbering.{vertices_of-renumbered}

-- the lines of sections and of those behind them
pub lines_in-append : (xs ys : List Section) → lines_in (xs ++ ys) ≡ lines_in xs ++ lines_in ys
lines_in-append [] ys = refl
lines_in-append (x ∷ xs) ys =
    ap (λ k. joined_lines_of x.text.now ++ k) (lines_in-append xs ys)
    ∙ sym (append_assoc (joined_lines_of x.text.now) (lines_in xs) (lines_in ys))

-- lines moved in the text are the same but for their numbers
unnumbered-moved : (n : ℕ) (lines : List JoinedLine) → map unnumbered (map (moved_by n) lines) ≡ map unnumbered lines
unnumbered-moved n [] = refl
unnumbered-moved n (line ∷ lines) = ap (λ k. unnumbered line ∷ k) (unnumbered-moved n lines)

-- the sections of a text are those of its first part and then those of its second
both_sections : (k : Bool) (n : ℕ) (xs ys : List Section) (front back all : List JoinedLine) → all ≡ front ++ map (moved_by n) back
    → AreSections k xs front → AreSections k ys back → AreSections k (xs ++ ys) all
both_sections k n xs ys front back all e first second = record {
  each = All-append (IsSection k) xs ys first.each second.each;
  same = ap (map unnumbered) (lines_in-append xs ys)
      ∙ map-append unnumbered (lines_in xs) (lines_in ys)
      ∙ ap (λ k. k ++ map unnumbered (lines_in ys)) first.same
      ∙ ap (λ k. map unnumbered front ++ k) (second.same ∙ sym (unnumbered-moved n back))
      ∙ sym (map-append unnumbered front (map (moved_by n) back))
      ∙ ap (map unnumbered) (sym e);
}

-- the same of a list that may be there
pub both_if_there : {V : Type 0} (k : Bool) (items : V → List Section) (n : ℕ) (xs ys : List Section)
    (front back all : List JoinedLine) (result : Option V) → all ≡ front ++ map (moved_by n) back
    → AreSections k xs front → AreSections k ys back → IfSome result (λ v. items v ≡ xs ++ ys)
    → IfSome result (λ v. AreSections k (items v) all)
both_if_there k items n xs ys front back all None e first second h = tt
both_if_there k items n xs ys front back all (Some v) e first second h =
    subst (λ l. AreSections k l all) (sym h) (both_sections k n xs ys front back all e first second)

-- a list that is not empty is its first section and those behind it
pub first_and_later : (none : Section) (sections : List Section) → 1 ≤ length sections
    → sections ≡ slice_index_or sections 0 none ∷ take (length sections - 1) (drop 1 sections)
first_and_later none [] some = absurd (omega (arith, some))
first_and_later none (first ∷ later) some =
    ap (λ k. first ∷ k) (sym (take_all (length (first ∷ later) - 1) later (omega arith)))

-- what is known of a list of counted sections, its first one and those behind that
pub record FirstOf (sections later : List Section) (first : Section) : Type 0 where
  pub vertices : vertices_of (lines_in sections) ≡ first.vertices + vertices_of (lines_in later)
  pub counted : All (IsSection true) later

-- so it is wherever a list has a first section
pub first_of : (sections later : List Section) (first : Section) → sections ≡ first ∷ later
    → All (IsSection true) sections → FirstOf sections later first
first_of sections later first e all =
    let each = subst (All (IsSection true)) e all in
    let own = (All-head (IsSection true) first later each).vertices refl in
    record {
      vertices = ap (λ k. vertices_of (lines_in k)) e
          ∙ vertices_of-append (joined_lines_of first.text.now) (lines_in later)
          ∙ ap (λ n. n + vertices_of (lines_in later)) (sym own);
      counted = All-tail (IsSection true) first later each;
    }

-- a list cut in two has the vertices of both
vertices_of_halves : (n : ℕ) (sections left right : List Section) → left ≡ take n sections → right ≡ drop n sections
    → vertices_of (lines_in sections) ≡ vertices_of (lines_in left) + vertices_of (lines_in right)
vertices_of_halves n sections left right l r =
    ap (λ k. vertices_of (lines_in k)) (sym (take-append-drop n sections))
    ∙ ap₂ (λ j k. vertices_of (lines_in (j ++ k))) (sym l) (sym r)
    ∙ ap vertices_of (lines_in-append left right)
    ∙ vertices_of-append (lines_in left) (lines_in right)

-- and their lines
lines_of_halves : (n : ℕ) (sections left right : List Section) → left ≡ take n sections → right ≡ drop n sections
    → lines_in sections ≡ lines_in left ++ lines_in right
lines_of_halves n sections left right l r =
    ap lines_in (sym (take-append-drop n sections))
    ∙ ap₂ (λ j k. lines_in (j ++ k)) (sym l) (sym r)
    ∙ lines_in-append left right

-- what is known of a list of sections, counted or not, and its two halves
pub record Halves (k : Bool) (sections left right : List Section) : Type 0 where
  pub vertices : vertices_of (lines_in sections) ≡ vertices_of (lines_in left) + vertices_of (lines_in right)
  pub lines : lines_in sections ≡ lines_in left ++ lines_in right
  pub first : All (IsSection k) left
  pub second : All (IsSection k) right

-- so it is wherever the list is cut
pub halves : (k : Bool) (n : ℕ) (sections : List Section) {left right : List Section} → left ≡ take n sections →
    right ≡ drop n sections → All (IsSection k) sections → Halves k sections left right
halves k n sections {left = left} {right = right} l r each = record {
  vertices = vertices_of_halves n sections left right l r;
  lines = lines_of_halves n sections left right l r;
  first = subst (All (IsSection k)) (sym l) (All-take (IsSection k) n sections each);
  second = subst (All (IsSection k)) (sym r) (All-drop (IsSection k) n sections each);
}

-- the sections of a text have its vertices
pub vertices_of_sections : (k : Bool) (sections all : List Section) (lines : List JoinedLine) → all ≡ sections
    → AreSections k sections lines → vertices_of (lines_in all) ≡ vertices_of lines
vertices_of_sections k sections all lines e s =
    ap (λ k. vertices_of (lines_in k)) e
    ∙ sym (vertices_of-renumbered (λ l. 0) (lines_in sections))
    ∙ ap vertices_of s.same
    ∙ vertices_of-renumbered (λ l. 0) lines

-- behind sections a part's vertices are counted where they were
pub counted_behind : (place : Place) (more : ℕ) → is_counted (place_behind place more) ≡ is_counted place
counted_behind (Behind vertices) more = refl
counted_behind Anywhere more = refl
