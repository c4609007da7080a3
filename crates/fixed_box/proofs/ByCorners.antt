-- What lies in a box, and which boxes meet or contain each other, told by the boxes' corners alone.
use Rattle.std.proofs.Common.{◌≡◌, ◌↔◌, Bool, true, false, IsTrue, refl}
use Rattle.std.specs.Int.{int_max}
use Rattle.fixed_box.specs.declared.shapes.Point.{Point}
use Rattle.fixed_box.specs.declared.shapes.Box3.{Box3}
use Rattle.fixed_box.specs.Boxes.{Holds, Meets, Contains}
use Rattle.fixed_box.specs.Corners.{IsAtMost}
use Rattle.fixed_box.proofs.Order.{IsGreater, at_most_refl, at_most_trans, greater_first, greater_second, greater_least}

-- a box's first corner is at most its last
pub rises : (b : Box3) → IsAtMost b.lo b.hi
rises b = record { x = b.x_rises; y = b.y_rises; z = b.z_rises }

-- a box holds the points between its corners
pub holds : (b : Box3) (p : Point) → IsAtMost b.lo p → IsAtMost p b.hi → Holds b p
holds b p l h = record {
  x = record { low = l.x; high = h.x };
  y = record { low = l.y; high = h.y };
  z = record { low = l.z; high = h.z };
}

-- a point in a box is at least the first corner
pub holds_low : (b : Box3) (p : Point) → Holds b p → IsAtMost b.lo p
holds_low b p h = record { x = h.x.low; y = h.y.low; z = h.z.low }

-- a point in a box is at most the last corner
pub holds_high : (b : Box3) (p : Point) → Holds b p → IsAtMost p b.hi
holds_high b p h = record { x = h.x.high; y = h.y.high; z = h.z.high }

-- a box holds its first corner
pub holds_lo : (b : Box3) → Holds b b.lo
holds_lo b = holds b b.lo (at_most_refl b.lo) (rises b)

-- a box holds its last corner
pub holds_hi : (b : Box3) → Holds b b.hi
holds_hi b = holds b b.hi (rises b) (at_most_refl b.hi)

-- the corners of the one are within those of the other
pub record IsWithin (outer inner : Box3) : Type 0 where
  pub low : IsAtMost outer.lo inner.lo
  pub high : IsAtMost inner.hi outer.hi

-- a box contains another exactly where its corners are outside the other's on each axis
pub contains_by_corners : (outer inner : Box3) → Contains outer inner ↔ IsWithin outer inner
contains_by_corners outer inner = (
  λ h. record {
    low = holds_low outer inner.lo (h inner.lo (holds_lo inner));
    high = holds_high outer inner.hi (h inner.hi (holds_hi inner));
  },
  λ w p h. holds outer p
      (at_most_trans outer.lo inner.lo p w.low (holds_low inner p h))
      (at_most_trans p inner.hi outer.hi (holds_high inner p h) w.high),
)

-- each box begins before the other ends
pub record AreCrossed (a b : Box3) : Type 0 where
  pub first : IsAtMost a.lo b.hi
  pub second : IsAtMost b.lo a.hi

-- the point at which, on each axis, the later of the two boxes begins
last_start : Box3 → Box3 → Point
last_start a b = record { x = int_max a.lo.x b.lo.x; y = int_max a.lo.y b.lo.y; z = int_max a.lo.z b.lo.z }

-- it has the greater coordinates of the first corners
last_start_is : (a b : Box3) → IsGreater a.lo b.lo (last_start a b)
unfolding last_start
last_start_is a b = record { x = refl; y = refl; z = refl }

-- two boxes meet exactly where each begins, on every axis, before the other ends
pub meets_by_corners : (a b : Box3) → Meets a b ↔ AreCrossed a b
meets_by_corners a b = (
  λ m. record {
    first = at_most_trans a.lo m.0 b.hi (holds_low a m.0 m.1) (holds_high b m.0 m.2);
    second = at_most_trans b.lo m.0 a.hi (holds_low b m.0 m.2) (holds_high a m.0 m.1);
  },
  λ c.
      let p = last_start a b in
      let g = last_start_is a b in (
        p,
        holds a p (greater_first a.lo b.lo p g) (greater_least a.lo b.lo p a.hi g (rises a) c.second),
        holds b p (greater_second a.lo b.lo p g) (greater_least a.lo b.lo p b.hi g c.first (rises b)),
      ),
)

-- each box contains itself
pub contains_refl : (b : Box3) → Contains b b
contains_refl b p h = h

-- what a box contains, its container contains
pub contains_trans : (a b c : Box3) → Contains a b → Contains b c → Contains a c
contains_trans a b c h k p q = h p (k p q)

-- boxes meet in either order
pub meets_sym : (a b : Box3) → Meets a b → Meets b a
meets_sym a b m = (m.0, m.2, m.1)

-- a box that meets another meets what contains it
pub meets_container : (outer inner b : Box3) → Contains outer inner → Meets inner b → Meets outer b
meets_container outer inner b h m = (m.0, h m.0 m.1, m.2)

-- a box that misses a container misses all that it contains
pub misses_contained : (outer inner b : Box3) → Contains outer inner → ¬ Meets outer b → ¬ Meets inner b
misses_contained outer inner b h misses m = misses (meets_container outer inner b h m)

-- where the first of two tests has passed, the second one decides what both together decide
both_decide : {P Q W R : Type 0} (x y : Bool) → x ≡ true → (IsTrue x ↔ P) → (IsTrue y ↔ Q) → (P → Q → W) → (W → Q) →
    (R ↔ W) → IsTrue y ↔ R
both_decide x y e p q join second law = (
  λ t. law.1 (join (p.0 e) (q.0 t)),
  λ r. q.1 (second (law.0 r)),
)

-- where the first of two tests has failed, it decides what both together decide
first_decides : {P W R : Type 0} (x : Bool) → x ≡ false → (IsTrue x ↔ P) → (W → P) → (R ↔ W) → IsTrue x ↔ R
first_decides x e p first law = (
  λ t. absurd (let h : ⊥ = cc in h),
  λ r. p.1 (first (law.0 r)),
)

-- two tests of corners decide whether a box contains another
pub contains_tested : (a b : Box3) (x y : Bool) → x ≡ true → (IsTrue x ↔ IsAtMost a.lo b.lo) →
    (IsTrue y ↔ IsAtMost b.hi a.hi) → IsTrue y ↔ Contains a b
contains_tested a b x y e p q = both_decide x y e p q (λ l h. record { low = l; high = h }) (λ w. w.high)
    (contains_by_corners a b)

-- one test that fails decides it too
pub contains_refused : (a b : Box3) (x : Bool) → x ≡ false → (IsTrue x ↔ IsAtMost a.lo b.lo) → IsTrue x ↔ Contains a b
contains_refused a b x e p = first_decides x e p (λ w. w.low) (contains_by_corners a b)

-- two tests of corners decide whether two boxes meet
pub meets_tested : (a b : Box3) (x y : Bool) → x ≡ true → (IsTrue x ↔ IsAtMost a.lo b.hi) →
    (IsTrue y ↔ IsAtMost b.lo a.hi) → IsTrue y ↔ Meets a b
meets_tested a b x y e p q = both_decide x y e p q (λ f s. record { first = f; second = s }) (λ w. w.second)
    (meets_by_corners a b)

-- one test that fails decides it too
pub meets_refused : (a b : Box3) (x : Bool) → x ≡ false → (IsTrue x ↔ IsAtMost a.lo b.hi) → IsTrue x ↔ Meets a b
meets_refused a b x e p = first_decides x e p (λ w. w.first) (meets_by_corners a b)
