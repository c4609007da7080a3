-- The world: the cube of points that meshes and segments may use.
use Rattle.std.specs.Prelude.{ℤ, neg_ℤ, ◌≤ℤ◌, ◌<ℤ◌}
use Rattle.fixed_box.specs.declared.shapes.Point.{Point}
use Rattle.fixed_box.specs.declared.shapes.Box3.{Box3}
use Rattle.fixed_box.specs.declared.shapes.Tri.{Tri}
use Rattle.fixed_box.specs.declared.shapes.TheConstants.{HALF}

-- from -HALF to HALF - 1
pub record IsCoordinate (x : ℤ) : Type 0 where
  pub low : neg_ℤ HALF ≤ℤ x
  pub high : x <ℤ HALF

-- each coordinate of the point is one of the world
pub record InWorld (p : Point) : Type 0 where
  pub x : IsCoordinate p.x
  pub y : IsCoordinate p.y
  pub z : IsCoordinate p.z

-- both corners of the box are in the world, and so is all between them
pub record BoxInWorld (b : Box3) : Type 0 where
  pub lo : InWorld b.lo
  pub hi : InWorld b.hi

-- the three corners of the triangle are in the world
pub record TriInWorld (t : Tri) : Type 0 where
  pub a : InWorld t.a
  pub b : InWorld t.b
  pub c : InWorld t.c
