-- Where a segment meets a triangle it is in every box that contains the triangle's box: so a box that the segment
-- misses, or enters behind a hit, holds no triangle with a hit as near.
use Rattle.std.proofs.Common.{◌≡◌, ℤ, ◌+ℤ◌, ◌-ℤ◌, ◌*ℤ◌, ◌≤ℤ◌, arith, sym, [], ◌∷◌, Option, None, IsSome}
use Rattle.std.proofs.lemmas.Int.{by_lt_z}
use Rattle.std.proofs.lemmas.List.Elements.{All-head, All-tail}
use Rattle.fixed_box.specs.declared.shapes.Point.{Point}
use Rattle.fixed_box.specs.declared.shapes.Box3.{Box3}
use Rattle.fixed_box.specs.declared.shapes.Tri.{Tri}
use Rattle.fixed_box.specs.Boxes.{Holds, Contains}
use Rattle.fixed_box.specs.Extent.{tri_box}
use Rattle.fixed_box.proofs.Extents.{tri_box-is_least}
use Rattle.segment_hit.proofs.Integers.{times_comm}
use Rattle.segment_hit.proofs.Signs.{orderly, grows}
use Rattle.segment_hit.proofs.Chains.{chain, upwards, apart}
use Rattle.segment_hit.proofs.BoxesOfMeetings.{Balances, spread, on_x, on_y, on_z}
use Rattle.segment_hit.proofs.Entries.{same_inside}
use Rattle.segment_hit.specs.Entering.{IsIn, IsEntry}
use Rattle.segment_hit.specs.FractionOrder.{IsBelow, IsBehind}
use Rattle.segment_hit.specs.Meeting.{MeetsAt, IsHit}
use Rattle.segment_hit.specs.declared.fraction.Frac.{Frac}
use Rattle.segment_hit.specs.declared.stretch.Entry.{Entry}

-- on one axis: what is at most all three corners is at most the point of the way at which they balance
above_low : (p q a b c T D u v w l : ℤ) → Balances p q a b c T D u v w → l ≤ℤ a → l ≤ℤ b → l ≤ℤ c
    → (D *ℤ l) ≤ℤ (D *ℤ p +ℤ T *ℤ (q -ℤ p))
above_low p q a b c T D u v w l m la lb lc =
    let i = grows l a u m.first la in
    let j = grows l b v m.second lb in
    let k = grows l c w m.third lc in
    let f : l *ℤ u +ℤ l *ℤ v +ℤ l *ℤ w ≡ l *ℤ D = rw (← m.whole) (sym (spread l u v w)) in
    omega (arith, orderly, i, j, k, f, m.balanced, times_comm l D, times_comm u a, times_comm v b, times_comm w c)

-- and what is at least all three is at least that point
below_high : (p q a b c T D u v w h : ℤ) → Balances p q a b c T D u v w → a ≤ℤ h → b ≤ℤ h → c ≤ℤ h
    → (D *ℤ p +ℤ T *ℤ (q -ℤ p)) ≤ℤ (D *ℤ h)
below_high p q a b c T D u v w h m ah bh ch =
    let i = grows a h u m.first ah in
    let j = grows b h v m.second bh in
    let k = grows c h w m.third ch in
    let f : h *ℤ u +ℤ h *ℤ v +ℤ h *ℤ w ≡ h *ℤ D = rw (← m.whole) (sym (spread h u v w)) in
    omega (arith, orderly, i, j, k, f, m.balanced, times_comm h D, times_comm u a, times_comm v b, times_comm w c)

-- at a meeting the segment is in each box that holds the three corners
pub in_box : (p q : Point) (t : Tri) (T D : ℤ) (b : Box3) → MeetsAt p q t T D → Holds b t.a → Holds b t.b → Holds b t.c
    → IsIn p q b T D
in_box p q t T D b m i j k =
    let x = on_x p q t T D m in
    let y = on_y p q t T D m in
    let z = on_z p q t T D m in
    record {
      positive = m.positive;
      begun = m.begun;
      ended = m.ended;
      on_x = record {
        low = above_low _ _ _ _ _ _ _ _ _ _ b.lo.x x i.x.low j.x.low k.x.low;
        high = below_high _ _ _ _ _ _ _ _ _ _ b.hi.x x i.x.high j.x.high k.x.high;
      };
      on_y = record {
        low = above_low _ _ _ _ _ _ _ _ _ _ b.lo.y y i.y.low j.y.low k.y.low;
        high = below_high _ _ _ _ _ _ _ _ _ _ b.hi.y y i.y.high j.y.high k.y.high;
      };
      on_z = record {
        low = above_low _ _ _ _ _ _ _ _ _ _ b.lo.z z i.z.low j.z.low k.z.low;
        high = below_high _ _ _ _ _ _ _ _ _ _ b.hi.z z i.z.high j.z.high k.z.high;
      };
    }

-- at a meeting the segment is in each box that contains the triangle's box
pub in_container : (p q : Point) (t : Tri) (T D : ℤ) (b : Box3) → MeetsAt p q t T D → Contains b (tri_box t)
    → IsIn p q b T D
in_container p q t T D b m c =
    let corners = (tri_box-is_least t).holds in
    let rest = All-tail (Holds (tri_box t)) t.a (t.b ∷ t.c ∷ []) corners in
    in_box p q t T D b m
    (c t.a (All-head (Holds (tri_box t)) t.a (t.b ∷ t.c ∷ []) corners))
    (c t.b (All-head (Holds (tri_box t)) t.b (t.c ∷ []) rest))
    (c t.c (All-head (Holds (tri_box t)) t.c [] (All-tail (Holds (tri_box t)) t.b (t.c ∷ []) rest)))

-- at a hit the segment is in each box that contains the triangle's box
pub hit_in_container : (p q : Point) (t : Tri) (f : Frac) (b : Box3) → IsHit p q t f → Contains b (tri_box t)
    → IsIn p q b f.num f.den
hit_in_container p q t f b h c =
    same_inside p q b h.0 h.1 f.num f.den f.above h.3 (in_container p q t h.0 h.1 b h.2 c)

-- so a box that the segment misses holds no triangle that it meets
pub missed : (p q : Point) (t : Tri) (f : Frac) (b : Box3) (o : Option Entry) → o ≡ None →
    ((T D : ℤ) → IsIn p q b T D → IsSome o) → IsHit p q t f → Contains b (tri_box t) → ⊥
missed p q t f b o e only h c =
    let some = only f.num f.den (hit_in_container p q t f b h c) in
    let k : ⊥ = cc in
    k

-- and one that it enters behind a fraction holds none that it meets at that fraction or before
pub behind : (p q : Point) (t : Tri) (f best : Frac) (b : Box3) (e : Entry) → IsEntry p q b e.num e.den →
    IsBehind e best → IsHit p q t f → Contains b (tri_box t) → IsBelow best f
behind p q t f best b e k later h c =
    by_lt_z (best.num *ℤ f.den) (f.num *ℤ best.den) (λ l. l) (λ g.
    absurd (apart (best.num *ℤ e.den) (e.num *ℤ best.den) later
    (chain e.num e.den f.num f.den best.num best.den (upwards e.den e.above) (upwards best.den best.above) f.above
    (k.least f.num f.den (hit_in_container p q t f b h c)) g)))
