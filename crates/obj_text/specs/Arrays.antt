-- Arrays that are to be a mesh: the first fault of those that are none. Their sizes are looked at first, then the points,
-- the faces and the groups of the faces, each from the first on.
use Rattle.std.specs.Prelude.{◌≡◌, ℕ, ◌<◌, ◌≤◌, ◌+◌, List, length, take}
use Rattle.std.specs.List.{All}
use Rattle.fixed_box.specs.World.{InWorld}
use Rattle.fixed_box.specs.declared.shapes.Point.{Point}
use Rattle.obj_text.specs.Meshes.{MeshLists, IsFaceOf, IsPlaceIn}
use Rattle.obj_text.specs.declared.face.Face.{Face}
use Rattle.obj_text.specs.declared.array_fault.ArrayFault.{ArrayFault}
use Rattle.obj_text.specs.declared.array_fault.ArrayFault.TheVariants.{TooManyPoints, TooManyFaces, NotOneGroupEach, Outside, NoSuchPoint, NoSuchGroup}
use Rattle.obj_text.specs.declared.limits.TheConstants.{MOST_POINTS, MOST_FACES}

-- the arrays as the lists of a mesh
abbrev pub lists : List Point → List Face → List (List ℕ) → List ℕ → MeshLists
lists points faces names group_of = record { points = points; faces = faces; names = names; group_of = group_of }

-- it holds of all elements before the place, and not of the one at the place too
abbrev pub IsFirstWrong : {A : Type 0} → (A → Type 0) → List A → ℕ → Type 0
IsFirstWrong P xs place = All P (take place xs) × ¬ (All P (take (place + 1) xs))

-- the sizes are those of a mesh
pub record HasSizes (mesh : MeshLists) : Type 0 where
  pub few_points : length mesh.points ≤ MOST_POINTS
  pub few_faces : length mesh.faces ≤ MOST_FACES
  pub one_group : length mesh.group_of ≡ length mesh.faces

-- the fault is the first one of the arrays
abbrev pub IsArrayFault : MeshLists → ArrayFault → Type 0
IsArrayFault mesh TooManyPoints = MOST_POINTS < length mesh.points
IsArrayFault mesh TooManyFaces = (length mesh.points ≤ MOST_POINTS) × (MOST_FACES < length mesh.faces)
IsArrayFault mesh NotOneGroupEach =
    (length mesh.points ≤ MOST_POINTS) × (length mesh.faces ≤ MOST_FACES) × ¬ (length mesh.group_of ≡ length mesh.faces)
IsArrayFault mesh (Outside point) = HasSizes mesh × IsFirstWrong InWorld mesh.points point
IsArrayFault mesh (NoSuchPoint face) =
    HasSizes mesh × All InWorld mesh.points × IsFirstWrong (IsFaceOf (length mesh.points)) mesh.faces face
IsArrayFault mesh (NoSuchGroup face) =
    HasSizes mesh × All InWorld mesh.points × All (IsFaceOf (length mesh.points)) mesh.faces
    × IsFirstWrong (IsPlaceIn (length mesh.names)) mesh.group_of face
