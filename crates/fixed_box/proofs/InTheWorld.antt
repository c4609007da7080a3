-- What stays in the world: what a box of the world contains, least boxes, and the middle of a box.
use Rattle.std.proofs.Common.{◌≡◌, ℤ, pos, negsuc, ◌+ℤ◌, ◌-ℤ◌, ◌≤ℤ◌, ◌<ℤ◌, neg_ℤ, List, [], ◌∷◌, All, arith}
use Rattle.std.specs.Int.{int_div_euclid}
use Rattle.std.proofs.lemmas.Int.{ints}
use Rattle.std.proofs.lemmas.List.Elements.{All-nil, All-cons, All-weaker}
use Rattle.fixed_box.specs.declared.shapes.Point.{Point}
use Rattle.fixed_box.specs.declared.shapes.Box3.{Box3}
use Rattle.fixed_box.specs.declared.shapes.Tri.{Tri}
use Rattle.fixed_box.specs.declared.shapes.TheConstants.{HALF}
use Rattle.fixed_box.specs.World.{IsCoordinate, InWorld, BoxInWorld, TriInWorld}
use Rattle.fixed_box.specs.Boxes.{Holds, Contains, IsLeastHolding, IsLeastBox}
use Rattle.fixed_box.specs.Centre.{IsMiddle, IsCentre}
use Rattle.fixed_box.proofs.Order.{same_point}
use Rattle.fixed_box.proofs.ByCorners.{holds_lo, holds_hi}

-- rounding division by two gives the middle
halves : (z : ℤ) → let h = int_div_euclid z (pos 2) in ((h +ℤ h) ≤ℤ z) × (z <ℤ (h +ℤ h +ℤ pos 2))
halves (pos n) = (omega (arith, ints), omega (arith, ints))
halves (negsuc n) = (omega (arith, ints), omega (arith, ints))

-- half of a sum by rounding division is its middle
pub middle_is : (lo hi c : ℤ) → c ≡ int_div_euclid (lo +ℤ hi) (pos 2) → IsMiddle lo c hi
middle_is lo hi c e =
    rw e (record { low = (halves (lo +ℤ hi)).0; high = (halves (lo +ℤ hi)).1 })

-- the middle of two numbers is one
pub one_middle : (lo hi c d : ℤ) → IsMiddle lo c hi → IsMiddle lo d hi → c ≡ d
one_middle lo hi c d h k = omega (arith, ints)

-- the centre of a box is one point
pub one_centre : (b : Box3) (c d : Point) → IsCentre b c → IsCentre b d → c ≡ d
one_centre b c d h k =
    same_point c d (one_middle b.lo.x b.hi.x c.x d.x h.x k.x) (one_middle b.lo.y b.hi.y c.y d.y h.y k.y)
    (one_middle b.lo.z b.hi.z c.z d.z h.z k.z)

-- the centre of a box is in the box
pub holds_centre : (b : Box3) (c : Point) → IsCentre b c → Holds b c
holds_centre b c h = record {
  x = record { low = omega (arith, ints, b.x_rises, h.x); high = omega (arith, ints, b.x_rises, h.x) };
  y = record { low = omega (arith, ints, b.y_rises, h.y); high = omega (arith, ints, b.y_rises, h.y) };
  z = record { low = omega (arith, ints, b.z_rises, h.z); high = omega (arith, ints, b.z_rises, h.z) };
}

-- a point of a box of the world is in the world
pub holds_in_world : (b : Box3) (p : Point) → BoxInWorld b → Holds b p → InWorld p
holds_in_world b p w h = record {
  x = record { low = omega (arith, ints, w.lo.x, h.x); high = omega (arith, ints, w.hi.x, h.x) };
  y = record { low = omega (arith, ints, w.lo.y, h.y); high = omega (arith, ints, w.hi.y, h.y) };
  z = record { low = omega (arith, ints, w.lo.z, h.z); high = omega (arith, ints, w.hi.z, h.z) };
}

-- what a box of the world contains is in the world
pub contained_in_world : (outer inner : Box3) → BoxInWorld outer → Contains outer inner → BoxInWorld inner
contained_in_world outer inner w h = record {
  lo = holds_in_world outer inner.lo w (h inner.lo (holds_lo inner));
  hi = holds_in_world outer inner.hi w (h inner.hi (holds_hi inner));
}

-- the world as a box
world : Box3
world = record {
  lo = record { x = neg_ℤ HALF; y = neg_ℤ HALF; z = neg_ℤ HALF };
  hi = record { x = HALF -ℤ pos 1; y = HALF -ℤ pos 1; z = HALF -ℤ pos 1 };
  x_rises = omega (arith, ints);
  y_rises = omega (arith, ints);
  z_rises = omega (arith, ints);
}

-- it is in the world
world_in_world : BoxInWorld world
unfolding world
world_in_world =
    let c : IsCoordinate (neg_ℤ HALF) = record { low = omega (arith, ints); high = omega (arith, ints) } in
    let d : IsCoordinate (HALF -ℤ pos 1) = record { low = omega (arith, ints); high = omega (arith, ints) } in
    record { lo = record { x = c; y = c; z = c }; hi = record { x = d; y = d; z = d } }

-- it holds each point of the world
world_holds : (p : Point) → InWorld p → Holds world p
unfolding world
world_holds p w = record {
  x = record { low = w.x.low; high = omega (arith, ints, w.x) };
  y = record { low = w.y.low; high = omega (arith, ints, w.y) };
  z = record { low = w.z.low; high = omega (arith, ints, w.z) };
}

-- it contains each box of the world
world_contains : (b : Box3) → BoxInWorld b → Contains world b
world_contains b w p h = world_holds p (holds_in_world b p w h)

-- the least box of boxes of the world is in the world
pub least_box_in_world : (boxes : List Box3) (b : Box3) → All BoxInWorld boxes → IsLeastBox boxes b → BoxInWorld b
least_box_in_world boxes b w h =
    contained_in_world world b world_in_world
    (h.least world (All-weaker BoxInWorld (Contains world) world_contains boxes w))

-- the least box of points of the world is in the world
pub least_holding_in_world : (points : List Point) (b : Box3) → All InWorld points → IsLeastHolding points b →
    BoxInWorld b
least_holding_in_world points b w h =
    contained_in_world world b world_in_world (h.least world (All-weaker InWorld (Holds world) world_holds points w))

-- the box of a triangle of the world is in the world
pub box_of_tri_in_world : (t : Tri) (b : Box3) → TriInWorld t → IsLeastHolding (t.a ∷ t.b ∷ t.c ∷ []) b → BoxInWorld b
box_of_tri_in_world t b w h =
    least_holding_in_world (t.a ∷ t.b ∷ t.c ∷ []) b
    (All-cons InWorld t.a (t.b ∷ t.c ∷ []) w.a
    (All-cons InWorld t.b (t.c ∷ []) w.b (All-cons InWorld t.c [] w.c (All-nil InWorld)))) h
