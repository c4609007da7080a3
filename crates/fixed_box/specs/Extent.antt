-- Boxes by their coordinates: on each axis the least and the greatest coordinate of what a box goes round.
use Rattle.std.specs.Prelude.{ℤ, ◌≤ℤ◌, Bool, ◌&&◌, int_le}
use Rattle.std.specs.Int.{int_min, int_max}
use Rattle.std.specs.Int.Signed.{≤ℤ_refl}
use Rattle.std.proofs.Common.{arith}
use Rattle.std.proofs.lemmas.Int.{ints, clamps}
use Rattle.fixed_box.specs.declared.shapes.Point.{Point}
use Rattle.fixed_box.specs.declared.shapes.Box3.{Box3}
use Rattle.fixed_box.specs.declared.shapes.Tri.{Tri}

-- the lesser of two lower ends is at most the greater of the two upper ends
pub ends_rise : (l h m n : ℤ) → l ≤ℤ h → int_min l m ≤ℤ int_max h n
ends_rise l h m n rises = omega (arith, ints, clamps)

-- the box of one point
unfoldable pub point_box : Point → Box3
point_box p = record { lo = p; hi = p; x_rises = ≤ℤ_refl p.x; y_rises = ≤ℤ_refl p.y; z_rises = ≤ℤ_refl p.z }

-- from the lesser of the lower ends to the greater of the upper ends, on each axis
unfoldable pub union_of : Box3 → Box3 → Box3
union_of a b = record {
  lo = record { x = int_min a.lo.x b.lo.x; y = int_min a.lo.y b.lo.y; z = int_min a.lo.z b.lo.z };
  hi = record { x = int_max a.hi.x b.hi.x; y = int_max a.hi.y b.hi.y; z = int_max a.hi.z b.hi.z };
  x_rises = ends_rise a.lo.x a.hi.x b.lo.x b.hi.x a.x_rises;
  y_rises = ends_rise a.lo.y a.hi.y b.lo.y b.hi.y a.y_rises;
  z_rises = ends_rise a.lo.z a.hi.z b.lo.z b.hi.z a.z_rises;
}

-- the box of two points
unfoldable pub corner_box : Point → Point → Box3
corner_box p q = union_of (point_box p) (point_box q)

-- the box of a triangle's three corners
unfoldable pub tri_box : Tri → Box3
tri_box t = union_of (corner_box t.a t.b) (point_box t.c)

-- on one axis, each of two extents begins before the other ends
unfoldable pub crosses : ℤ → ℤ → ℤ → ℤ → Bool
crosses lo hi other_lo other_hi = int_le lo other_hi && int_le other_lo hi

-- whether the boxes meet
unfoldable pub boxes_meet : Box3 → Box3 → Bool
boxes_meet a b = crosses a.lo.x a.hi.x b.lo.x b.hi.x && crosses a.lo.y a.hi.y b.lo.y b.hi.y && crosses a.lo.z a.hi.z b.lo.z b.hi.z
