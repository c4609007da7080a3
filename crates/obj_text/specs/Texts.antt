-- The mesh of a whole text, or the first of its lines that has a fault.
use Rattle.std.specs.Prelude.{◌≡◌, ℕ, ◌+◌, ⊤, List, [], ◌∷◌, ◌++◌, length, replicate, codes, if◌then◌else◌, Ok, Err, Result, Option, None, Some}
use Rattle.std.specs.List.{count_by}
use Rattle.fixed_box.specs.declared.shapes.Point.{Point}
use Rattle.text_words.specs.Joins.{JoinedLine, joined_lines_of}
use Rattle.obj_text.specs.Meshes.{MeshLists}
use Rattle.obj_text.specs.Rows.{Given, given_of, is_vertex, points_of, faces_of, name_after}
use Rattle.obj_text.specs.Groups.{first_seen, places_in}
use Rattle.obj_text.specs.declared.face.Face.{Face}
use Rattle.obj_text.specs.declared.fault.Why.{Why}
use Rattle.obj_text.specs.declared.fault.MeshFault.{MeshFault}
use Rattle.obj_text.specs.declared.fault.MeshFault.TheVariants.{Line, Memory}

-- how many of the lines begin with the word `v`, faulty ones among them
abbrev pub vertices_of : List JoinedLine → ℕ
vertices_of lines = count_by (λ line. is_vertex line.words) lines

-- a line that was read: its number, and what it gives or its first fault
pub record Reading : Type 0 where
  pub number : ℕ
  pub given : Result Given Why

-- what a line without a fault gives
abbrev pub points_read : Result Given Why → List Point
points_read (Ok given) = points_of given
points_read (Err why) = []

abbrev pub faces_read : Result Given Why → List Face
faces_read (Ok given) = faces_of given
faces_read (Err why) = []

abbrev pub name_read : List ℕ → Result Given Why → List ℕ
name_read name (Ok given) = name_after name given
name_read name (Err why) = name

-- the lines read, in a text with so many vertices, behind so many `v` lines and triangles
abbrev pub readings : ℕ → ℕ → ℕ → ℕ → List JoinedLine → List Reading
readings unit vertices before triangles [] = []
readings unit vertices before triangles (line ∷ lines) =
    record { number = line.number; given = given_of unit vertices before triangles line.words }
    ∷ readings unit vertices (before + (if is_vertex line.words then 1 else 0))
    (triangles + length (faces_read (given_of unit vertices before triangles line.words))) lines

-- the points of all lines, and their faces, in their order
abbrev pub points_in : List Reading → List Point
points_in [] = []
points_in (line ∷ lines) = points_read line.given ++ points_in lines

abbrev pub faces_in : List Reading → List Face
faces_in [] = []
faces_in (line ∷ lines) = faces_read line.given ++ faces_in lines

-- the name of each triangle: the current one at its line
abbrev pub names_in : List ℕ → List Reading → List (List ℕ)
names_in name [] = []
names_in name (line ∷ lines) =
    replicate (length (faces_read line.given)) name ++ names_in (name_read name line.given) lines

-- a line of a text that has a fault, and the first of its faults
pub record FaultyLine : Type 0 where
  pub line : ℕ
  pub why : Why

-- the fault of a line of this number, else that of the lines behind it
abbrev pub fault_or : ℕ → Result Given Why → Option FaultyLine → Option FaultyLine
fault_or number (Ok given) later = later
fault_or number (Err why) later = Some (record { line = number; why = why })

-- the first line that has a fault
abbrev pub first_faulty : List Reading → Option FaultyLine
first_faulty [] = None
first_faulty (line ∷ lines) = fault_or line.number line.given (first_faulty lines)

-- the mesh that lines give; its groups are the names that have a triangle, in the order of their first
abbrev pub mesh_of_lines : List Reading → MeshLists
mesh_of_lines lines = record {
  points = points_in lines;
  faces = faces_in lines;
  names = first_seen (names_in (codes "default") lines);
  group_of = places_in (first_seen (names_in (codes "default") lines)) (names_in (codes "default") lines);
}

-- the fault, where there is one, else the mesh
abbrev pub unless_faulty : Option FaultyLine → MeshLists → Result MeshLists FaultyLine
unless_faulty None mesh = Ok mesh
unless_faulty (Some fault) mesh = Err fault

abbrev pub mesh_in : List Reading → Result MeshLists FaultyLine
mesh_in lines = unless_faulty (first_faulty lines) (mesh_of_lines lines)

-- the lines of a text, read with so many grid steps to its unit
abbrev pub readings_of : ℕ → List ℕ → List Reading
readings_of unit text = readings unit (vertices_of (joined_lines_of text)) 0 0 (joined_lines_of text)

-- the mesh of a text, with so many grid steps to its unit, or its first faulty line
abbrev pub mesh_of : ℕ → List ℕ → Result MeshLists FaultyLine
mesh_of unit text = mesh_in (readings_of unit text)

-- what a refusal says of the text: a line is its first faulty one; want of memory says nothing
abbrev pub IsRefusalOf : Result MeshLists FaultyLine → MeshFault → Type 0
IsRefusalOf outcome (Line line why) = outcome ≡ Err (record { line = line; why = why })
IsRefusalOf outcome Memory = ⊤
