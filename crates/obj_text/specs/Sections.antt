-- A text in sections, each cut so that no joined line goes across. No public clause cites this module.
use Rattle.std.specs.Prelude.{◌≡◌, ◌≤◌, ℕ, Bool, true, false, List, [], ◌∷◌, ◌++◌, length, map, All}
use Rattle.text_words.specs.Joins.{JoinedLine, joined_lines_of}
use Rattle.obj_text.specs.Texts.{vertices_of}
use Rattle.obj_text.specs.declared.limits.TheConstants.{MOST_BYTES}
use Rattle.obj_text.specs.declared.place.Place.{Place}
use Rattle.obj_text.specs.declared.place.Place.TheVariants.{Behind, Anywhere}
use Rattle.obj_text.specs.declared.sections.Section.{Section}

-- a joined line with another number
abbrev pub renumbered : (JoinedLine → ℕ) → JoinedLine → JoinedLine
renumbered number line = record { number = number line; words = line.words }

-- a joined line without its number
abbrev pub unnumbered : JoinedLine → JoinedLine
unnumbered line = renumbered (λ l. 0) line

-- the lines of the sections, each numbered from its own first
abbrev pub lines_in : List Section → List JoinedLine
lines_in [] = []
lines_in (section ∷ sections) = joined_lines_of section.text.now ++ lines_in sections

-- a section that is not too long, with how many vertices it has where they are counted
pub record IsSection (counted : Bool) (section : Section) : Type 0 where
  pub few : length section.text.now ≤ MOST_BYTES
  pub vertices : counted ≡ true → section.vertices ≡ vertices_of (joined_lines_of section.text.now)

-- the sections have these lines, but for their numbers
pub record AreSections (counted : Bool) (sections : List Section) (lines : List JoinedLine) : Type 0 where
  pub each : All (IsSection counted) sections
  pub same : map unnumbered (lines_in sections) ≡ map unnumbered lines

-- where a part stands behind so many vertices, those of its sections are counted
abbrev pub is_counted : Place → Bool
is_counted (Behind vertices) = true
is_counted Anywhere = false
