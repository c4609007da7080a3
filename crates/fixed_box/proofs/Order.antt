-- The order of points axis by axis: it is an order, and the lesser and the greater coordinates are its bounds.
use Rattle.std.proofs.Common.{◌≡◌, ℤ, ◌≤ℤ◌, arith}
use Rattle.std.specs.Int.{int_min, int_max}
use Rattle.std.proofs.lemmas.Int.{ints, clamps}
use Rattle.fixed_box.specs.declared.shapes.Point.{Point}
use Rattle.fixed_box.specs.Corners.{IsAtMost}

-- r has the lesser coordinate of p and q on each axis
pub record IsLesser (p q r : Point) : Type 0 where
  pub x : r.x ≡ int_min p.x q.x
  pub y : r.y ≡ int_min p.y q.y
  pub z : r.z ≡ int_min p.z q.z

-- r has the greater coordinate of p and q on each axis
pub record IsGreater (p q r : Point) : Type 0 where
  pub x : r.x ≡ int_max p.x q.x
  pub y : r.y ≡ int_max p.y q.y
  pub z : r.z ≡ int_max p.z q.z

-- each point is at most itself
pub at_most_refl : (p : Point) → IsAtMost p p
at_most_refl p = record { x = omega (arith, ints); y = omega (arith, ints); z = omega (arith, ints) }

-- what is at most a point is at most all that this point is at most
pub at_most_trans : (p q r : Point) → IsAtMost p q → IsAtMost q r → IsAtMost p r
at_most_trans p q r h k = record { x = omega (arith, ints); y = omega (arith, ints); z = omega (arith, ints) }

-- the point with these coordinates
abbrev pub point : ℤ → ℤ → ℤ → Point
point x y z = record { x = x; y = y; z = z }

-- points with equal coordinates are equal
pub same_point : (p q : Point) → p.x ≡ q.x → p.y ≡ q.y → p.z ≡ q.z → p ≡ q
same_point p q a b c = let e : point p.x p.y p.z ≡ point q.x q.y q.z = rw (a, b, c) in e

-- two points that are at most each other are equal
pub at_most_antisym : (p q : Point) → IsAtMost p q → IsAtMost q p → p ≡ q
at_most_antisym p q h k = same_point p q (omega (arith, ints)) (omega (arith, ints)) (omega (arith, ints))

-- on one axis: the lesser of two is at most both, and what is at most both is at most it
lesser_of : (a b m : ℤ) → m ≡ int_min a b →
    (m ≤ℤ a) × (m ≤ℤ b) × ((c : ℤ) → c ≤ℤ a → c ≤ℤ b → c ≤ℤ m)
lesser_of a b m h =
    (omega (arith, ints, clamps, h), omega (arith, ints, clamps, h), λ c first second. omega (arith, ints, clamps, h))

-- and the greater is at least both, and at most what both are at most
greater_of : (a b m : ℤ) → m ≡ int_max a b →
    (a ≤ℤ m) × (b ≤ℤ m) × ((c : ℤ) → a ≤ℤ c → b ≤ℤ c → m ≤ℤ c)
greater_of a b m h =
    (omega (arith, ints, clamps, h), omega (arith, ints, clamps, h), λ c first second. omega (arith, ints, clamps, h))

-- the lesser coordinates are at most those of the first point
pub lesser_first : (p q r : Point) → IsLesser p q r → IsAtMost r p
lesser_first p q r h =
    record { x = (lesser_of p.x q.x r.x h.x).0; y = (lesser_of p.y q.y r.y h.y).0; z = (lesser_of p.z q.z r.z h.z).0 }

-- the lesser coordinates are at most those of the second point
pub lesser_second : (p q r : Point) → IsLesser p q r → IsAtMost r q
lesser_second p q r h =
    record { x = (lesser_of p.x q.x r.x h.x).1; y = (lesser_of p.y q.y r.y h.y).1; z = (lesser_of p.z q.z r.z h.z).1 }

-- a point that is at most both is at most the lesser coordinates
pub lesser_greatest : (p q r s : Point) → IsLesser p q r → IsAtMost s p → IsAtMost s q → IsAtMost s r
lesser_greatest p q r s h a b = record {
  x = (lesser_of p.x q.x r.x h.x).2 s.x a.x b.x;
  y = (lesser_of p.y q.y r.y h.y).2 s.y a.y b.y;
  z = (lesser_of p.z q.z r.z h.z).2 s.z a.z b.z;
}

-- the greater coordinates are at least those of the first point
pub greater_first : (p q r : Point) → IsGreater p q r → IsAtMost p r
greater_first p q r h =
    record { x = (greater_of p.x q.x r.x h.x).0; y = (greater_of p.y q.y r.y h.y).0; z = (greater_of p.z q.z r.z h.z).0 }

-- the greater coordinates are at least those of the second point
pub greater_second : (p q r : Point) → IsGreater p q r → IsAtMost q r
greater_second p q r h =
    record { x = (greater_of p.x q.x r.x h.x).1; y = (greater_of p.y q.y r.y h.y).1; z = (greater_of p.z q.z r.z h.z).1 }

-- the greater coordinates are at most a point that both are at most
pub greater_least : (p q r s : Point) → IsGreater p q r → IsAtMost p s → IsAtMost q s → IsAtMost r s
greater_least p q r s h a b = record {
  x = (greater_of p.x q.x r.x h.x).2 s.x a.x b.x;
  y = (greater_of p.y q.y r.y h.y).2 s.y a.y b.y;
  z = (greater_of p.z q.z r.z h.z).2 s.z a.z b.z;
}

-- a point with the lesser coordinates, told coordinate by coordinate
pub lesser : (p q r : Point) → r.x ≡ int_min p.x q.x → r.y ≡ int_min p.y q.y → r.z ≡ int_min p.z q.z → IsLesser p q r
lesser p q r x y z = record { x = x; y = y; z = z }

-- a point with the greater coordinates, told coordinate by coordinate
pub greater : (p q r : Point) → r.x ≡ int_max p.x q.x → r.y ≡ int_max p.y q.y → r.z ≡ int_max p.z q.z → IsGreater p q r
greater p q r x y z = record { x = x; y = y; z = z }

-- the lesser coordinates are at most the greater ones
pub lesser_below_greater : (p q l g : Point) → IsLesser p q l → IsGreater p q g → IsAtMost l g
lesser_below_greater p q l g h k = at_most_trans l p g (lesser_first p q l h) (greater_first p q g k)
