-- A box that is shut holds no hit as near as the best one.
use Rattle.std.proofs.Common.{ℕ, ℤ, pos, ◌+ℤ◌, ◌*ℤ◌, ◌≤ℤ◌, ◌<ℤ◌, arith, inl, inr, List, Option, None, Some}
use Rattle.std.proofs.lemmas.Int.{ints, by_lt_z}
use Rattle.fixed_box.specs.declared.shapes.Point.{Point}
use Rattle.fixed_box.specs.declared.shapes.Tri.{Tri}
use Rattle.fixed_box.specs.declared.shapes.Box3.{Box3}
use Rattle.fixed_box.specs.Boxes.{Contains}
use Rattle.fixed_box.specs.Extent.{tri_box}
use Rattle.segment_hit.specs.declared.fraction.Frac.{Frac}
use Rattle.segment_hit.specs.FractionOrder.{IsBelow}
use Rattle.segment_hit.specs.Entering.{IsIn}
use Rattle.segment_hit.specs.Stretches.{IsPart}
use Rattle.segment_hit.specs.Meeting.{IsHit}
use Rattle.segment_hit.proofs.Integers.{times_comm}
use Rattle.segment_hit.proofs.Signs.{orderly, grows, shrinks}
use Rattle.segment_hit.proofs.Chains.{chain, upwards, apart}
use Rattle.segment_hit.proofs.MeetingsInBoxes.{hit_in_container}
use Rattle.segment_hit.proofs.HitFractions.{hit_ended}
use Rattle.traversal.specs.Nearest.{triangle_of}
use Rattle.traversal.specs.Nearing.{Nears}
use Rattle.traversal.proofs.BestHit.{nears_none, nears_far}
use Rattle.segment_hit.specs.declared.line.Passage.{Passage}
use Rattle.segment_hit.specs.Lines.{IsPassageOf}
use Rattle.walk_list.specs.Reaches.{IsLimit, IsShut}

-- an order of three numbers
at_least : (x y z : ℤ) → x ≤ℤ y → y ≤ℤ z → x ≤ℤ z
at_least x y z h k = omega (arith, ints)

-- where the segment is in a box is a part of its way
part_of : {p q : Point} {b : Box3} {T E : ℤ} → IsIn p q b T E → IsPart T E
part_of h = record { positive = h.positive; begun = h.begun; ended = h.ended }

module _ (tris : List Tri) (p q : Point) (seen : ℕ → Type 0) (b : Box3) (whole : ℤ) (above : pos 0 <ℤ whole)
    (g : Passage) (is : IsPassageOf p q b whole g)
    (contains : (n : ℕ) → seen n → Contains b (tri_box (triangle_of tris n))) where
  -- a hit lies behind the entry
  entered : (n : ℕ) (f : Frac) → seen n → IsHit p q (triangle_of tris n) f → (g.enter.at *ℤ f.den) ≤ℤ (f.num *ℤ whole)
  entered n f s h =
      let inside = hit_in_container p q (triangle_of tris n) f b h (contains n s) in
      ((is f.num f.den (part_of inside)).1 inside).begun

  -- and it lies before the exit
  left : (n : ℕ) (f : Frac) → seen n → IsHit p q (triangle_of tris n) f → (f.num *ℤ whole) ≤ℤ (g.leave.at *ℤ f.den)
  left n f s h =
      let inside = hit_in_container p q (triangle_of tris n) f b h (contains n s) in
      ((is f.num f.den (part_of inside)).1 inside).ended

  -- so a box that is missed holds none
  none_missed : g.leave.at <ℤ g.enter.at → (n : ℕ) (f : Frac) → seen n → IsHit p q (triangle_of tris n) f → ⊥
  none_missed lt n f s h =
      apart g.leave.at g.enter.at lt
      (shrinks g.enter.at g.leave.at f.den f.above (at_least _ _ _ (entered n f s h) (left n f s h)))

  -- one that is entered past all of the way holds none
  none_past : (most : ℤ) → whole ≤ℤ most → most <ℤ g.enter.at → (n : ℕ) (f : Frac) → seen n →
      IsHit p q (triangle_of tris n) f → ⊥
  none_past most all lt n f s h =
      let e = entered n f s h in
      let k = grows f.num f.den whole (upwards whole above) (hit_ended p q (triangle_of tris n) f h) in
      let turned = times_comm f.den whole in
      let m : (g.enter.at *ℤ f.den) ≤ℤ (whole *ℤ f.den) = omega (arith, orderly, e, k, turned) in
      apart most g.enter.at lt (at_least g.enter.at whole most (shrinks g.enter.at whole f.den f.above m) all)

  -- and one that is entered behind a hit none as near
  none_near : (best : Frac) (most : ℤ) → (best.num *ℤ whole) <ℤ ((most +ℤ pos 1) *ℤ best.den) → most <ℤ g.enter.at →
      (n : ℕ) (f : Frac) → seen n → IsHit p q (triangle_of tris n) f → IsBelow best f
  none_near best most floor lt n f s h =
      let next : (most +ℤ pos 1) ≤ℤ g.enter.at = omega (arith, ints, lt) in
      let k = grows (most +ℤ pos 1) g.enter.at best.den (upwards best.den best.above) next in
      let later : (best.num *ℤ whole) <ℤ (g.enter.at *ℤ best.den) = omega (arith, orderly, floor, k) in
      by_lt_z (best.num *ℤ f.den) (f.num *ℤ best.den) (λ l. l) (λ back.
      absurd (apart (best.num *ℤ whole) (g.enter.at *ℤ best.den) later
      (chain g.enter.at whole f.num f.den best.num best.den (upwards whole above) (upwards best.den best.above) f.above
      (entered n f s h) back)))

  -- so it changes nothing
  pub shut_over : (best : Option (ℕ × Frac)) (most : ℤ) → IsLimit whole best most → IsShut g most →
      Nears tris p q seen best best
  shut_over best most limit (inl lt) = nears_none tris p q seen best (none_missed lt)
  shut_over None most limit (inr lt) = nears_none tris p q seen None (none_past most limit lt)
  shut_over (Some h) most limit (inr lt) = nears_far tris p q seen (Some h) (none_near h.1 most limit.floor lt)
