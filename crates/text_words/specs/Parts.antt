-- How a reader of joined lines holds what is left of them. No public clause cites this module.
use Rattle.std.specs.Prelude.{Bool, true, false, List, [], ◌∷◌, ◌++◌, ◌==◌, ◌&&◌, not, IsTrue, ℕ}
use Rattle.std.specs.List.{list_all}
use Rattle.text_words.specs.Joins.{JoinedLine, LinesLeft}

-- the words left of one line of the text, and the joined lines that begin behind it; where it is joined with the
-- next, the first of those goes on with it
abbrev pub left_of : List (List ℕ) → Bool → List JoinedLine → LinesLeft
left_of words false later = record { words = words; later = later }
left_of words true [] = record { words = words; later = [] }
left_of words true (line ∷ later) = record { words = words ++ line.words; later = later }

-- neither a '#' nor a '\' stands in it
abbrev pub IsPlain : List ℕ → Type 0
IsPlain line = IsTrue (list_all (λ b. not (b == 35) && not (b == 92)) line)
