-- The triangles of a mesh and their boxes are in the world.
use Rattle.std.proofs.Common.{◌≡◌, ◌<◌, ◌≤◌, ◌-◌, ℕ, pos, List, length, map, get_or, All, sym, subst, arith}
use Rattle.std.proofs.lemmas.List.{get_or-map, length-map}
use Rattle.std.proofs.lemmas.List.Elements.{All-get_or, All-map, All-weaker}
use Rattle.fixed_box.specs.declared.shapes.Point.{Point}
use Rattle.fixed_box.specs.declared.shapes.Tri.{Tri}
use Rattle.fixed_box.specs.Extent.{tri_box}
use Rattle.fixed_box.specs.World.{InWorld, BoxInWorld, TriInWorld}
use Rattle.fixed_box.proofs.Extents.{tri_box-is_least}
use Rattle.fixed_box.proofs.InTheWorld.{box_of_tri_in_world}
use Rattle.obj_text.specs.Meshes.{IsFaceOf}
use Rattle.obj_text.specs.declared.face.Face.{Face}
use Rattle.traversal.specs.Nearest.{no_tri, triangle_of}
use Rattle.world_index.specs.Worlds.{point_at, tri_of, tris_at}

-- a point that is there is in the world
point_in_world : (points : List Point) (i : ℕ) → i < length points → All InWorld points → InWorld (point_at points i)
point_in_world points i lt h = All-get_or InWorld points i (record { x = pos 0; y = pos 0; z = pos 0 }) lt h

-- and so is a face's triangle
face_in_world : (points : List Point) (face : Face) → All InWorld points → IsFaceOf (length points) face →
    TriInWorld (tri_of points face)
face_in_world points face h named = record {
  a = point_in_world points face.a named.a h;
  b = point_in_world points face.b named.b h;
  c = point_in_world points face.c named.c h;
}

-- the triangles of a mesh are in the world
pub tris_in_world : (points : List Point) (faces : List Face) → All InWorld points →
    All (IsFaceOf (length points)) faces → All TriInWorld (tris_at points faces)
tris_in_world points faces h named =
    All-map TriInWorld (tri_of points) faces
    (All-weaker (IsFaceOf (length points)) (λ face. TriInWorld (tri_of points face))
    (λ face is. face_in_world points face h is) faces named)

-- and so are their boxes
pub boxes_in_world : (tris : List Tri) → All TriInWorld tris → All BoxInWorld (map tri_box tris)
boxes_in_world tris h =
    All-map BoxInWorld tri_box tris
    (All-weaker TriInWorld (λ t. BoxInWorld (tri_box t))
    (λ t is. box_of_tri_in_world t (tri_box t) is (tri_box-is_least t)) tris h)

-- those of equal lists are too
pub tris_of_lists_in_world : (own points : List Point) (named faces : List Face) → points ≡ own → faces ≡ named →
    All InWorld own → All (IsFaceOf (length own)) named → All TriInWorld (tris_at points faces)
tris_of_lists_in_world own points named faces same_points same_faces h is =
    subst (λ ps. All TriInWorld (tris_at ps faces)) (sym same_points)
    (subst (λ fs. All TriInWorld (tris_at own fs)) (sym same_faces) (tris_in_world own named h is))

-- the triangle of a number is that of the face at its place
pub face_of_number : (points : List Point) (faces : List Face) (n : ℕ) (none : Face) → 0 < n →
    n ≤ length (tris_at points faces) → tri_of points (get_or faces (n - 1) none) ≡ triangle_of (tris_at points faces) n
unfolding triangle_of
face_of_number points faces n none from_one to_count =
    sym (get_or-map (tri_of points) faces (n - 1) none no_tri (omega (arith, length-map faces (tri_of points))))
