-- A triangle that is looked up by its number.
use Rattle.std.proofs.Common.{ℕ, ◌-◌, ◌<◌, ◌≤◌, arith, List, length, All}
use Rattle.std.proofs.lemmas.List.Elements.{All-get_or}
use Rattle.fixed_box.specs.declared.shapes.Tri.{Tri}
use Rattle.fixed_box.specs.World.{TriInWorld}
use Rattle.traversal.specs.Nearest.{no_tri, triangle_of}

-- it is in the world, where all are
pub looked_up_in_world : (tris : List Tri) (n : ℕ) → 0 < n → n ≤ length tris → All TriInWorld tris →
    TriInWorld (triangle_of tris n)
unfolding triangle_of
looked_up_in_world tris n from_one to_count all = All-get_or TriInWorld tris (n - 1) no_tri (omega arith) all
