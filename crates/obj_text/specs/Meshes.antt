-- What a contract sees of a mesh: the lists of its points, its faces, its groups' names, and the group of each face.
use Rattle.std.specs.Prelude.{◌≡◌, ℕ, ◌<◌, ◌≤◌, List, length}
use Rattle.std.specs.List.{All}
use Rattle.fixed_box.specs.World.{InWorld}
use Rattle.fixed_box.specs.declared.shapes.Point.{Point}
use Rattle.obj_text.specs.declared.face.Face.{Face}
use Rattle.obj_text.specs.declared.limits.TheConstants.{MOST_POINTS, MOST_FACES}

-- the points, the faces and the names, each in the order of the text, and for each face the place of its name
pub record MeshLists : Type 0 where
  pub points : List Point
  pub faces : List Face
  pub names : List (List ℕ)
  pub group_of : List ℕ

-- each corner of the face is one of so many points
pub record IsFaceOf (points : ℕ) (face : Face) : Type 0 where
  pub a : face.a < points
  pub b : face.b < points
  pub c : face.c < points

-- the place is one of so many
abbrev pub IsPlaceIn : ℕ → ℕ → Type 0
IsPlaceIn groups place = place < groups

-- what holds of every mesh
pub record IsMesh (mesh : MeshLists) : Type 0 where
  pub in_world : All InWorld mesh.points
  pub named : All (IsFaceOf (length mesh.points)) mesh.faces
  pub grouped : All (IsPlaceIn (length mesh.names)) mesh.group_of
  pub one_group : length mesh.group_of ≡ length mesh.faces
  pub few_points : length mesh.points ≤ MOST_POINTS
  pub few_faces : length mesh.faces ≤ MOST_FACES
