-- The test of two boxes answers whether some point is in both.
use Rattle.std.proofs.Common.{◌≡◌, ◌↔◌, ℤ, ◌≤ℤ◌, ◌&&◌, Bool, true, false, IsTrue, int_le, refl, sym}
use Rattle.std.specs.Int.Signed.{le_z_yes}
use Rattle.std.proofs.Math.Dec.{T}
use Rattle.std.proofs.lemmas.Float.{T_from_true}
use Rattle.fixed_box.specs.declared.shapes.Box3.{Box3}
use Rattle.fixed_box.specs.Boxes.{Meets}
use Rattle.fixed_box.specs.Extent.{crosses, boxes_meet}
use Rattle.fixed_box.proofs.ByCorners.{AreCrossed, meets_by_corners}

-- both tests hold where their conjunction does
both_true : (x y : Bool) → IsTrue (x && y) ↔ (IsTrue x × IsTrue y)
both_true true y = (λ p. (refl, p), λ p. p.1)
both_true false y = (λ p. (p, cc), λ p. p.0)

-- a test that holds is true
is_true : (b : Bool) → T b → b ≡ true
is_true true t = refl
is_true false t = absurd t

-- the comparison of two coordinates, as a test and as a fact
le_tested : (a b : ℤ) → IsTrue (int_le a b) ↔ (a ≤ℤ b)
le_tested a b = (λ p. le_z_yes (T_from_true (int_le a b) p), λ h. is_true (int_le a b) h.le)

-- two tests of one fact are equal
pub one_answer : (x y : Bool) (P : Type 0) → (IsTrue x ↔ P) → (IsTrue y ↔ P) → x ≡ y
one_answer true true P h k = refl
one_answer false false P h k = refl
one_answer true false P h k = sym (k.1 (h.0 refl))
one_answer false true P h k = h.1 (k.0 refl)

-- the test of one axis
crosses_is : (lo hi other_lo other_hi : ℤ) → IsTrue (crosses lo hi other_lo other_hi) ↔ ((lo ≤ℤ other_hi) × (other_lo ≤ℤ hi))
unfolding crosses
crosses_is lo hi other_lo other_hi =
    let both = both_true (int_le lo other_hi) (int_le other_lo hi) in
    let first = le_tested lo other_hi in
    let second = le_tested other_lo hi in
    (λ p. (first.0 ((both.0 p).0), second.0 ((both.0 p).1)), λ p. both.1 (first.1 (p.0), second.1 (p.1)))

-- the test is true exactly where the boxes meet
pub boxes_meet_is : (a b : Box3) → IsTrue (boxes_meet a b) ↔ Meets a b
unfolding boxes_meet
boxes_meet_is a b =
    let x = crosses_is a.lo.x a.hi.x b.lo.x b.hi.x in
    let y = crosses_is a.lo.y a.hi.y b.lo.y b.hi.y in
    let z = crosses_is a.lo.z a.hi.z b.lo.z b.hi.z in
    let xy = both_true (crosses a.lo.x a.hi.x b.lo.x b.hi.x) (crosses a.lo.y a.hi.y b.lo.y b.hi.y) in
    let xyz = both_true (crosses a.lo.x a.hi.x b.lo.x b.hi.x && crosses a.lo.y a.hi.y b.lo.y b.hi.y) (crosses a.lo.z a.hi.z b.lo.z b.hi.z) in (
      λ t.
          let p = xyz.0 t in
          let q = xy.0 (p.0) in
          (meets_by_corners a b).1 record {
            first = record { x = (x.0 (q.0)).0; y = (y.0 (q.1)).0; z = (z.0 (p.1)).0 };
            second = record { x = (x.0 (q.0)).1; y = (y.0 (q.1)).1; z = (z.0 (p.1)).1 };
          },
      λ m.
          let c = (meets_by_corners a b).0 m in
          xyz.1 (xy.1 (x.1 (c.first.x, c.second.x), y.1 (c.first.y, c.second.y)), z.1 (c.first.z, c.second.z)),
    )
