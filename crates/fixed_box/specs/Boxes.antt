-- What lies in a box, which boxes meet, and the least box round points or boxes. It speaks of points alone.
use Rattle.std.specs.Prelude.{ℤ, ◌≤ℤ◌, List, All}
use Rattle.fixed_box.specs.declared.shapes.Point.{Point}
use Rattle.fixed_box.specs.declared.shapes.Box3.{Box3}

-- x is from lo to hi, both included
pub record IsBetween (lo x hi : ℤ) : Type 0 where
  pub low : lo ≤ℤ x
  pub high : x ≤ℤ hi

-- the point is in the box, or on its face
pub record Holds (b : Box3) (p : Point) : Type 0 where
  pub x : IsBetween b.lo.x p.x b.hi.x
  pub y : IsBetween b.lo.y p.y b.hi.y
  pub z : IsBetween b.lo.z p.z b.hi.z

-- some point is in both
abbrev pub Meets : Box3 → Box3 → Type 0
Meets a b = (p : Point) × Holds a p × Holds b p

-- every point of the inner box is in the outer one
abbrev pub Contains : Box3 → Box3 → Type 0
Contains outer inner = (p : Point) → Holds inner p → Holds outer p

-- the box holds each of the points, and every box that holds each of them contains it
pub record IsLeastHolding (points : List Point) (b : Box3) : Type 0 where
  pub holds : All (Holds b) points
  pub least : (c : Box3) → All (Holds c) points → Contains c b

-- the box contains each of the boxes, and every box that contains each of them contains it
pub record IsLeastBox (boxes : List Box3) (b : Box3) : Type 0 where
  pub contains : All (Contains b) boxes
  pub least : (c : Box3) → All (Contains c) boxes → Contains c b
