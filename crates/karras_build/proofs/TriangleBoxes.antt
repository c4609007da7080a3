-- The boxes of triangles of the world.
use Rattle.std.proofs.Common.{List, map, All}
use Rattle.std.proofs.lemmas.List.Elements.{All-map, All-weaker}
use Rattle.fixed_box.specs.declared.shapes.Tri.{Tri}
use Rattle.fixed_box.specs.Extent.{tri_box}
use Rattle.fixed_box.specs.World.{BoxInWorld, TriInWorld}
use Rattle.fixed_box.proofs.Extents.{tri_box-is_least}
use Rattle.fixed_box.proofs.InTheWorld.{box_of_tri_in_world}

-- they are in the world too
pub boxes_in_world : (tris : List Tri) → All TriInWorld tris → All BoxInWorld (map tri_box tris)
boxes_in_world tris h =
    All-map BoxInWorld tri_box tris
    (All-weaker TriInWorld (λ t. BoxInWorld (tri_box t))
    (λ t is. box_of_tri_in_world t (tri_box t) is (tri_box-is_least t)) tris h)
