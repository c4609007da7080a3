-- Differences of points as vectors, their products, and the normal of a triangle's plane.
use Rattle.std.specs.Prelude.{ℤ, ◌+ℤ◌, ◌-ℤ◌, ◌*ℤ◌}
use Rattle.fixed_box.specs.declared.shapes.Point.{Point}
use Rattle.fixed_box.specs.declared.shapes.Tri.{Tri}

-- a vector of whole numbers
pub record Vector : Type 0 where
  pub x : ℤ
  pub y : ℤ
  pub z : ℤ

-- q - p
abbrev pub from_to : Point → Point → Vector
from_to p q = record { x = q.x -ℤ p.x; y = q.y -ℤ p.y; z = q.z -ℤ p.z }

-- the dot product
abbrev pub dot : Vector → Vector → ℤ
dot a b = a.x *ℤ b.x +ℤ a.y *ℤ b.y +ℤ a.z *ℤ b.z

-- the cross product
abbrev pub cross : Vector → Vector → Vector
cross a b = record {
  x = a.y *ℤ b.z -ℤ a.z *ℤ b.y;
  y = a.z *ℤ b.x -ℤ a.x *ℤ b.z;
  z = a.x *ℤ b.y -ℤ a.y *ℤ b.x;
}

-- (b - a) x (c - a), which is zero where the triangle has no area
abbrev pub normal : Tri → Vector
normal t = cross (from_to t.a t.b) (from_to t.a t.c)
