-- Where a part of a text stands, and how its lines are read there. No public clause cites this module.
use Rattle.std.specs.Prelude.{ℕ, ◌+◌, List, [], ◌∷◌, length, if◌then◌else◌}
use Rattle.text_words.specs.Joins.{JoinedLine}
use Rattle.obj_text.specs.Rows.{given_of, is_vertex}
use Rattle.obj_text.specs.Texts.{Reading, faces_read}
use Rattle.obj_text.specs.declared.place.Place.{Place}
use Rattle.obj_text.specs.declared.place.Place.TheVariants.{Behind, Anywhere}

-- behind how many vertices a line is read that stands behind so many of its part
abbrev pub before : Place → ℕ → ℕ
before (Behind vertices) points = vertices + points
before Anywhere points = 0

-- where lines stand that follow so many vertices of a part
abbrev pub place_behind : Place → ℕ → Place
place_behind (Behind vertices) more = Behind (vertices + more)
place_behind Anywhere more = Anywhere

-- the lines of a part read, behind so many of its vertices and triangles, in a text with so many vertices
abbrev pub readings_at : ℕ → ℕ → Place → ℕ → ℕ → List JoinedLine → List Reading
readings_at unit vertices place points triangles [] = []
readings_at unit vertices place points triangles (line ∷ lines) =
    record { number = line.number; given = given_of unit vertices (before place points) triangles line.words }
    ∷ readings_at unit vertices place (points + (if is_vertex line.words then 1 else 0))
    (triangles + length (faces_read (given_of unit vertices (before place points) triangles line.words))) lines
