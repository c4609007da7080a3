-- Where a text may be cut so that no joined line goes across.
use Rattle.std.specs.Prelude.{◌≡◌, ◌<◌, ◌≤◌, ℕ, ◌+◌, ◌-◌, ◌/◌, Bool, false, List, [], ◌∷◌, ◌==◌, ◌||◌, ◌&&◌, length, take, slice_index}
use Rattle.text_words.specs.Joins.{JoinedLine, is_line_end}

-- a joined line that stands behind so many lines more
abbrev pub moved_by : ℕ → JoinedLine → JoinedLine
moved_by lines line = record { number = lines + line.number; words = line.words }

-- a line feed behind this might join two lines: it ends with '\', or with '\' and a carriage return
abbrev pub may_join : List ℕ → Bool
may_join [] = false
may_join (b ∷ bs) = (b == 92 && is_line_end bs) || may_join bs

-- a place past the middle of the text, right behind a line feed that joins no two lines
pub record IsCutPlace (text : List ℕ) (at : ℕ) : Type 0 where
  pub past : length text / 2 < at
  pub inside : at ≤ length text
  pub feed : slice_index text (at - 1) ≡ 10
  pub apart : may_join (take (at - 1) text) ≡ false
