-- The determinants that `hit` works out, and the tests that it makes on them. No public clause cites this module.
use Rattle.std.specs.Prelude.{◌≡◌, pos, ◌+ℤ◌, ◌≤ℤ◌, neg_ℤ}
use Rattle.fixed_box.specs.declared.shapes.Point.{Point}
use Rattle.fixed_box.specs.declared.shapes.Tri.{Tri}
use Rattle.segment_hit.specs.Vectors.{Vector}
use Rattle.segment_hit.specs.HitOf.{Shares, whole_of, time_of, second_of, third_of}
use Rattle.segment_hit.specs.declared.vectors.Arrow.{Arrow}
use Rattle.segment_hit.specs.declared.vectors.Area.{Area}
use Rattle.segment_hit.specs.declared.vectors.Determinants.{Determinants}

-- a difference as a vector
abbrev pub vector_of : Arrow → Vector
vector_of a = record { x = a.x; y = a.y; z = a.z }

-- a cross product as a vector
abbrev pub area_of : Area → Vector
area_of a = record { x = a.x; y = a.y; z = a.z }

-- the determinants as plain numbers
abbrev pub shares : Determinants → Shares
shares m = record { whole = m.whole; time = m.time; second = m.second; third = m.third }

-- m holds the determinants of the segment from p to q and the triangle
pub record AreDeterminantsOf (p q : Point) (t : Tri) (m : Determinants) : Type 0 where
  pub whole : m.whole ≡ whole_of p q t
  pub time : m.time ≡ time_of p t
  pub second : m.second ≡ second_of p q t
  pub third : m.third ≡ third_of p q t

-- n holds the negations of what m holds
pub record AreNegated (m n : Determinants) : Type 0 where
  pub whole : n.whole ≡ neg_ℤ m.whole
  pub time : n.time ≡ neg_ℤ m.time
  pub second : n.second ≡ neg_ℤ m.second
  pub third : n.third ≡ neg_ℤ m.third

-- the time is from 0 to the whole, and no corner has a weight below 0
pub record IsInside (m : Shares) : Type 0 where
  pub begun : pos 0 ≤ℤ m.time
  pub ended : m.time ≤ℤ m.whole
  pub second_weight : pos 0 ≤ℤ m.second
  pub third_weight : pos 0 ≤ℤ m.third
  pub first_weight : (m.second +ℤ m.third) ≤ℤ m.whole
