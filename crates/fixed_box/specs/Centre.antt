-- The middle of a box, rounded down on each axis.
use Rattle.std.specs.Prelude.{ℤ, pos, ◌+ℤ◌, ◌≤ℤ◌, ◌<ℤ◌}
use Rattle.fixed_box.specs.declared.shapes.Point.{Point}
use Rattle.fixed_box.specs.declared.shapes.Box3.{Box3}

-- c is the greatest whole number that is at most half of lo + hi
pub record IsMiddle (lo c hi : ℤ) : Type 0 where
  pub low : (c +ℤ c) ≤ℤ (lo +ℤ hi)
  pub high : (lo +ℤ hi) <ℤ (c +ℤ c +ℤ pos 2)

-- the point is the middle of the box on each axis
pub record IsCentre (b : Box3) (c : Point) : Type 0 where
  pub x : IsMiddle b.lo.x c.x b.hi.x
  pub y : IsMiddle b.lo.y c.y b.hi.y
  pub z : IsMiddle b.lo.z c.z b.hi.z
