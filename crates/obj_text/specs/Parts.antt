-- What a part of a text gives. No public clause cites this module.
use Rattle.std.specs.Prelude.{◌≡◌, ℕ, List, [], ◌∷◌, ◌++◌, ◌≤◌, ⊤, length, replicate, Option, None, Some}
use Rattle.std.specs.Borrow.{Bor}
use Rattle.std.specs.Option.{option_or}
use Rattle.std.specs.List.{All}
use Rattle.fixed_box.specs.World.{InWorld}
use Rattle.fixed_box.specs.declared.shapes.Point.{Point}
use Rattle.text_words.specs.Joins.{JoinedLine}
use Rattle.obj_text.specs.Meshes.{MeshLists, IsFaceOf}
use Rattle.obj_text.specs.Groups.{first_seen, places_in}
use Rattle.obj_text.specs.Texts.{points_in, faces_in, first_faulty, FaultyLine}
use Rattle.obj_text.specs.Places.{readings_at}
use Rattle.obj_text.specs.Names.{known, known_names, last_known}
use Rattle.obj_text.specs.declared.face.Face.{Face}
use Rattle.obj_text.specs.declared.fault.MeshFault.{MeshFault}
use Rattle.obj_text.specs.declared.fault.MeshFault.TheVariants.{Line, Memory}
use Rattle.obj_text.specs.declared.limits.TheConstants.{MOST_POINTS, MOST_FACES}
use Rattle.obj_text.specs.declared.part.Run.{Run}
use Rattle.obj_text.specs.declared.place.Place.{Place}

-- the name of each face of runs of faces, where it is known
abbrev pub names_of : List Run → List (Option (List ℕ))
names_of [] = []
names_of (run ∷ runs) = replicate run.faces (known run.name) ++ names_of runs

-- a run behind lines of which this is the last known name
abbrev pub run_behind : Option (Bor (List ℕ)) → Run → Run
run_behind last run = record { name = option_or run.name last; faces = run.faces }

-- lines without a fault that stand there give these points, and faces in these runs, and leave this name, where
-- triangles are counted from the first of these lines
pub record IsPart (unit vertices : ℕ) (place : Place) (lines : List JoinedLine) (points : List Point)
    (faces : List Face) (runs : List Run) (name : Option (Bor (List ℕ))) : Type 0 where
  pub faultless : first_faulty (readings_at unit vertices place 0 0 lines) ≡ None
  pub points_are : points ≡ points_in (readings_at unit vertices place 0 0 lines)
  pub faces_are : faces ≡ faces_in (readings_at unit vertices place 0 0 lines)
  pub names_are : names_of runs ≡ known_names None (readings_at unit vertices place 0 0 lines)
  pub name_is : known name ≡ last_known None (readings_at unit vertices place 0 0 lines)

-- what a refusal says of the first faulty line: it is this one; want of memory says nothing
abbrev pub IsFirstFault : Option FaultyLine → MeshFault → Type 0
IsFirstFault fault (Line line why) = fault ≡ Some (record { line = line; why = why })
IsFirstFault fault Memory = ⊤

-- points and faces of a mesh, with a name for each face
pub record MakesMesh (points : List Point) (faces : List Face) (names : List (List ℕ)) : Type 0 where
  pub in_world : All InWorld points
  pub named : All (IsFaceOf (length points)) faces
  pub one_name : length names ≡ length faces
  pub few_points : length points ≤ MOST_POINTS
  pub few_faces : length faces ≤ MOST_FACES

-- their mesh
abbrev pub mesh_from : List Point → List Face → List (List ℕ) → MeshLists
mesh_from points faces names = record {
  points = points;
  faces = faces;
  names = first_seen names;
  group_of = places_in (first_seen names) names;
}
