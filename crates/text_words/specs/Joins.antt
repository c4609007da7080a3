-- The joined lines of a text: a line that ends with '\' goes on in the next. Each has the number of its first line.
use Rattle.std.specs.Prelude.{ℕ, ◌+◌, Bool, true, false, List, [], ◌∷◌, ◌++◌, ◌==◌, ◌||◌, ◌&&◌, not, map, if◌then◌else◌}
use Rattle.text_words.specs.Lines.{lines_of, words_of}

-- what may follow the '\' that joins a line with the next: nothing, or one carriage return
abbrev pub is_line_end : List ℕ → Bool
is_line_end [] = true
is_line_end (b ∷ []) = b == 13
is_line_end (b ∷ c ∷ bs) = false

-- what a line says: all that stands before its first '#' or before the '\' that joins it with the next
abbrev pub said : List ℕ → List ℕ
said [] = []
said (b ∷ bs) = if b == 35 || (b == 92 && is_line_end bs) then [] else b ∷ said bs

-- the line is joined with the next: it ends with a '\', and no '#' stands in it
abbrev pub joins : List ℕ → Bool
joins [] = false
joins (b ∷ bs) = not (b == 35) && ((b == 92 && is_line_end bs) || joins bs)

-- what a line of this number says, a space, and the line after it, if there is one
abbrev pub joined_with : ℕ → List ℕ → List (ℕ × List ℕ) → List (ℕ × List ℕ)
joined_with number front [] = (number, front) ∷ []
joined_with number front (next ∷ later) = (number, front ++ 32 ∷ next.1) ∷ later

-- lines joined, each with the number of its first, where the first of all has this number
abbrev pub joined : ℕ → List (List ℕ) → List (ℕ × List ℕ)
joined number [] = []
joined number (line ∷ lines) =
    if joins line then joined_with number (said line) (joined (number + 1) lines)
    else (number, said line) ∷ joined (number + 1) lines

-- a joined line: the number of its first line, counted from 1, and its words
pub record JoinedLine : Type 0 where
  pub number : ℕ
  pub words : List (List ℕ)

abbrev pub with_words : ℕ × List ℕ → JoinedLine
with_words line = record { number = line.0; words = words_of line.1 }

-- the joined lines of a text
abbrev pub joined_lines : ℕ → List (List ℕ) → List JoinedLine
joined_lines number lines = map with_words (joined number lines)

abbrev pub joined_lines_of : List ℕ → List JoinedLine
joined_lines_of text = joined_lines 1 (lines_of text)

-- what is still to be read of a text: the words left of the joined line at hand, and the joined lines behind it
pub record LinesLeft : Type 0 where
  pub words : List (List ℕ)
  pub later : List JoinedLine
