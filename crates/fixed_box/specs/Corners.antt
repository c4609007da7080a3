-- Points compared axis by axis, which the crate's own functions on corners cite. No public clause cites this module.
use Rattle.std.specs.Prelude.{◌≤ℤ◌}
use Rattle.fixed_box.specs.declared.shapes.Point.{Point}

-- on each axis p is at most q
pub record IsAtMost (p q : Point) : Type 0 where
  pub x : p.x ≤ℤ q.x
  pub y : p.y ≤ℤ q.y
  pub z : p.z ≤ℤ q.z
