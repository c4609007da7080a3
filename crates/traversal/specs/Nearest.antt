-- The nearest triangle that a segment meets: a least over all triangles.
use Rattle.std.specs.Prelude.{ℕ, ◌-◌, ◌<◌, ◌≤◌, pos, List, length, slice_index_or}
use Rattle.fixed_box.specs.declared.shapes.Point.{Point}
use Rattle.fixed_box.specs.declared.shapes.Tri.{Tri}
use Rattle.segment_hit.specs.Meeting.{IsHit}
use Rattle.segment_hit.specs.FractionOrder.{IsAtMost}
use Rattle.segment_hit.specs.declared.fraction.Frac.{Frac}

-- the point that stands where no point is
unfoldable pub no_point : Point
no_point = record { x = pos 0; y = pos 0; z = pos 0 }

-- and the triangle where no triangle is
unfoldable pub no_tri : Tri
no_tri = record { a = no_point; b = no_point; c = no_point }

-- the triangle of a number, of which the first is 1
unfoldable pub triangle_of : List Tri → ℕ → Tri
triangle_of tris n = slice_index_or tris (n - 1) no_tri

-- there is a triangle of that number, and the segment from p to q meets it at the fraction
pub record IsMet (tris : List Tri) (p q : Point) (number : ℕ) (at : Frac) : Type 0 where
  pub from_one : 0 < number
  pub to_count : number ≤ length tris
  pub hit : IsHit p q (triangle_of tris number) at

-- the triangle is met at the fraction, none is met at a lesser one, and none of a lower number at the same
pub record IsNearest (tris : List Tri) (p q : Point) (number : ℕ) (at : Frac) : Type 0 where
  pub met : IsMet tris p q number at
  pub least : (other : ℕ) (fraction : Frac) → IsMet tris p q other fraction → IsAtMost at fraction
  pub lowest : (other : ℕ) → IsMet tris p q other at → number ≤ other
