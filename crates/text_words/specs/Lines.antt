-- The lines of a text, what stands in a line before its comment, and the words of a line.
use Rattle.std.specs.Prelude.{ℕ, Bool, true, false, List, [], ◌∷◌, ◌==◌, ◌||◌, not, filter, IsTrue, if◌then◌else◌}
use Rattle.std.specs.List.{slice_split, list_all}

-- a byte before a list of lines: it begins the first line, and where there is no line it is one only if an
-- unfinished line counts
abbrev pub onto_line : Bool → ℕ → List (List ℕ) → List (List ℕ)
onto_line unfinished b (line ∷ lines) = (b ∷ line) ∷ lines
onto_line true b [] = (b ∷ []) ∷ []
onto_line false b [] = []

-- a text cut at line feeds, with or without an unfinished last line
abbrev pub cut_lines : Bool → List ℕ → List (List ℕ)
cut_lines unfinished [] = []
cut_lines unfinished (b ∷ bs) =
    if b == 10 then [] ∷ cut_lines unfinished bs else onto_line unfinished b (cut_lines unfinished bs)

-- all lines, an unfinished last one among them; after a line feed at the end there is no further line
abbrev pub lines_of : List ℕ → List (List ℕ)
lines_of text = cut_lines true text

-- the lines whose line feed is there
abbrev pub ended_lines : List ℕ → List (List ℕ)
ended_lines text = cut_lines false text

-- no line feed stands in it
abbrev pub IsOneLine : List ℕ → Type 0
IsOneLine text = IsTrue (list_all (λ b. not (b == 10)) text)

-- tab, vertical tab, form feed, carriage return and space
abbrev pub is_blank : ℕ → Bool
is_blank b = b == 9 || b == 11 || b == 12 || b == 13 || b == 32

-- it is not empty
abbrev pub is_word : List ℕ → Bool
is_word [] = false
is_word (b ∷ bs) = true

-- the longest runs of bytes that are no blanks
abbrev pub words_of : List ℕ → List (List ℕ)
words_of line = filter is_word (slice_split is_blank line)
