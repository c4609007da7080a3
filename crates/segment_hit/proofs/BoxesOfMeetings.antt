-- Where a segment meets a triangle, every box that holds the segment's ends meets every box that holds the corners.
use Rattle.std.proofs.Common.{◌≡◌, ℤ, pos, ◌+ℤ◌, ◌-ℤ◌, ◌*ℤ◌, ◌≤ℤ◌, ◌<ℤ◌, arith, sym, [], ◌∷◌}
use Rattle.std.proofs.lemmas.List.Elements.{All-head, All-tail}
use Rattle.fixed_box.specs.declared.shapes.Point.{Point}
use Rattle.fixed_box.specs.declared.shapes.Box3.{Box3}
use Rattle.fixed_box.specs.declared.shapes.Tri.{Tri}
use Rattle.fixed_box.specs.Boxes.{Holds, Meets, IsLeastHolding}
use Rattle.fixed_box.proofs.ByCorners.{meets_by_corners}
use Rattle.segment_hit.proofs.Integers.{parts, same_diff, to_diff, times-sub, times_comm}
use Rattle.segment_hit.proofs.Signs.{orderly, grows, shrinks}
use Rattle.segment_hit.specs.Meeting.{MeetsAt}

-- a point of the way, as the ends weighed by what is left and what is done
way : (D T p q : ℤ) → D *ℤ p +ℤ T *ℤ (q -ℤ p) ≡ p *ℤ (D -ℤ T) +ℤ q *ℤ T
way D T p q = rw (← parts D, ← parts T, ← parts p, ← parts q) (simp to_diff (same_diff _ _ _ _ (omega arith)))

-- a product by a sum of three
pub spread : (h u v w : ℤ) → h *ℤ (u +ℤ v +ℤ w) ≡ h *ℤ u +ℤ h *ℤ v +ℤ h *ℤ w
spread h u v w =
    rw (← parts h, ← parts u, ← parts v, ← parts w) (simp to_diff (same_diff _ _ _ _ (omega arith)))

-- on one axis: how the weighed corners balance at a point of the way
pub record Balances (p q a b c T D u v w : ℤ) : Type 0 where
  pub positive : pos 0 <ℤ D
  pub begun : pos 0 ≤ℤ T
  pub ended : T ≤ℤ D
  pub first : pos 0 ≤ℤ u
  pub second : pos 0 ≤ℤ v
  pub third : pos 0 ≤ℤ w
  pub whole : u +ℤ v +ℤ w ≡ D
  pub balanced : D *ℤ p +ℤ T *ℤ (q -ℤ p) ≡ u *ℤ a +ℤ v *ℤ b +ℤ w *ℤ c

-- what is at most both ends is at most the point of the way
ends_above : (p q a b c T D u v w l : ℤ) → Balances p q a b c T D u v w → l ≤ℤ p → l ≤ℤ q →
    (l *ℤ D) ≤ℤ (D *ℤ p +ℤ T *ℤ (q -ℤ p))
ends_above p q a b c T D u v w l m lp lq =
    let rest : pos 0 ≤ℤ (D -ℤ T) = omega (arith, orderly, m.ended) in
    let x = grows l p (D -ℤ T) rest lp in
    let y = grows l q T m.begun lq in
    omega (arith, orderly, x, y, way D T p q, times-sub l D T)

-- and what both ends are at most, it is at most
ends_below : (p q a b c T D u v w h : ℤ) → Balances p q a b c T D u v w → p ≤ℤ h → q ≤ℤ h →
    (D *ℤ p +ℤ T *ℤ (q -ℤ p)) ≤ℤ (h *ℤ D)
ends_below p q a b c T D u v w h m ph qh =
    let rest : pos 0 ≤ℤ (D -ℤ T) = omega (arith, orderly, m.ended) in
    let x = grows p h (D -ℤ T) rest ph in
    let y = grows q h T m.begun qh in
    omega (arith, orderly, x, y, way D T p q, times-sub h D T)

-- what is at most all three corners is at most the weighed corners
corners_above : (p q a b c T D u v w l : ℤ) → Balances p q a b c T D u v w → l ≤ℤ a → l ≤ℤ b → l ≤ℤ c →
    (l *ℤ D) ≤ℤ (u *ℤ a +ℤ v *ℤ b +ℤ w *ℤ c)
corners_above p q a b c T D u v w l m la lb lc =
    let i = grows l a u m.first la in
    let j = grows l b v m.second lb in
    let k = grows l c w m.third lc in
    let f : l *ℤ u +ℤ l *ℤ v +ℤ l *ℤ w ≡ l *ℤ D = rw (← m.whole) (sym (spread l u v w)) in
    omega (arith, orderly, i, j, k, f, times_comm u a, times_comm v b, times_comm w c)

-- and what all three corners are at most, they are at most
corners_below : (p q a b c T D u v w h : ℤ) → Balances p q a b c T D u v w → a ≤ℤ h → b ≤ℤ h → c ≤ℤ h →
    (u *ℤ a +ℤ v *ℤ b +ℤ w *ℤ c) ≤ℤ (h *ℤ D)
corners_below p q a b c T D u v w h m ah bh ch =
    let i = grows a h u m.first ah in
    let j = grows b h v m.second bh in
    let k = grows c h w m.third ch in
    let f : h *ℤ u +ℤ h *ℤ v +ℤ h *ℤ w ≡ h *ℤ D = rw (← m.whole) (sym (spread h u v w)) in
    omega (arith, orderly, i, j, k, f, times_comm u a, times_comm v b, times_comm w c)

-- what is at most both ends is at most what all three corners are at most
low_to_high : (p q a b c T D u v w l h : ℤ) → Balances p q a b c T D u v w →
    l ≤ℤ p → l ≤ℤ q → a ≤ℤ h → b ≤ℤ h → c ≤ℤ h → l ≤ℤ h
low_to_high p q a b c T D u v w l h m lp lq ah bh ch =
    let ends = ends_above p q a b c T D u v w l m lp lq in
    let corners = corners_below p q a b c T D u v w h m ah bh ch in
    shrinks l h D m.positive (omega (arith, orderly, ends, corners, m.balanced))

-- what is at most all three corners is at most what both ends are at most
low_from_high : (p q a b c T D u v w l h : ℤ) → Balances p q a b c T D u v w →
    p ≤ℤ h → q ≤ℤ h → l ≤ℤ a → l ≤ℤ b → l ≤ℤ c → l ≤ℤ h
low_from_high p q a b c T D u v w l h m ph qh la lb lc =
    let ends = ends_below p q a b c T D u v w h m ph qh in
    let corners = corners_above p q a b c T D u v w l m la lb lc in
    shrinks l h D m.positive (omega (arith, orderly, ends, corners, m.balanced))

-- at a meeting the weighed corners balance on an axis where they are the point of the way
balances : (x y : Point) (t : Tri) (T D p q a b c : ℤ) (m : MeetsAt x y t T D) →
    D *ℤ p +ℤ T *ℤ (q -ℤ p) ≡ m.weights.0 *ℤ a +ℤ m.weights.1 *ℤ b +ℤ m.weights.2 *ℤ c →
    Balances p q a b c T D m.weights.0 m.weights.1 m.weights.2
balances x y t T D p q a b c m balanced = record {
  positive = m.positive;
  begun = m.begun;
  ended = m.ended;
  first = m.weights.3.first;
  second = m.weights.3.second;
  third = m.weights.3.third;
  whole = m.weights.3.whole;
  balanced = balanced;
}

-- so they do on the axis x
pub on_x : (p q : Point) (t : Tri) (T D : ℤ) (m : MeetsAt p q t T D) →
    Balances p.x q.x t.a.x t.b.x t.c.x T D m.weights.0 m.weights.1 m.weights.2
on_x p q t T D m = balances p q t T D _ _ _ _ _ m m.weights.3.on_x

-- on the axis y
pub on_y : (p q : Point) (t : Tri) (T D : ℤ) (m : MeetsAt p q t T D) →
    Balances p.y q.y t.a.y t.b.y t.c.y T D m.weights.0 m.weights.1 m.weights.2
on_y p q t T D m = balances p q t T D _ _ _ _ _ m m.weights.3.on_y

-- and on the axis z
pub on_z : (p q : Point) (t : Tri) (T D : ℤ) (m : MeetsAt p q t T D) →
    Balances p.z q.z t.a.z t.b.z t.c.z T D m.weights.0 m.weights.1 m.weights.2
on_z p q t T D m = balances p q t T D _ _ _ _ _ m m.weights.3.on_z

-- each box that holds both ends meets each box that holds the three corners
pub boxes_meet : (p q : Point) (t : Tri) (T D : ℤ) (s b : Box3) → MeetsAt p q t T D →
    Holds s p → Holds s q → Holds b t.a → Holds b t.b → Holds b t.c → Meets s b
boxes_meet p q t T D s b m sp sq ba bb bc =
    let x = on_x p q t T D m in
    let y = on_y p q t T D m in
    let z = on_z p q t T D m in
    (meets_by_corners s b).1 (record {
      first = record {
        x = low_to_high _ _ _ _ _ _ _ _ _ _ s.lo.x b.hi.x x sp.x.low sq.x.low ba.x.high bb.x.high bc.x.high;
        y = low_to_high _ _ _ _ _ _ _ _ _ _ s.lo.y b.hi.y y sp.y.low sq.y.low ba.y.high bb.y.high bc.y.high;
        z = low_to_high _ _ _ _ _ _ _ _ _ _ s.lo.z b.hi.z z sp.z.low sq.z.low ba.z.high bb.z.high bc.z.high;
      };
      second = record {
        x = low_from_high _ _ _ _ _ _ _ _ _ _ b.lo.x s.hi.x x sp.x.high sq.x.high ba.x.low bb.x.low bc.x.low;
        y = low_from_high _ _ _ _ _ _ _ _ _ _ b.lo.y s.hi.y y sp.y.high sq.y.high ba.y.low bb.y.low bc.y.low;
        z = low_from_high _ _ _ _ _ _ _ _ _ _ b.lo.z s.hi.z z sp.z.high sq.z.high ba.z.low bb.z.low bc.z.low;
      };
    })

-- the box of the segment's ends meets the box of the triangle
pub least_boxes_meet : (p q : Point) (t : Tri) (T D : ℤ) (s b : Box3) → MeetsAt p q t T D →
    IsLeastHolding (p ∷ q ∷ []) s → IsLeastHolding (t.a ∷ t.b ∷ t.c ∷ []) b → Meets s b
least_boxes_meet p q t T D s b m hs hb =
    let ends = hs.holds in
    let corners = hb.holds in
    let rest = All-tail (Holds b) t.a (t.b ∷ t.c ∷ []) corners in
    boxes_meet p q t T D s b m
    (All-head (Holds s) p (q ∷ []) ends)
    (All-head (Holds s) q [] (All-tail (Holds s) p (q ∷ []) ends))
    (All-head (Holds b) t.a (t.b ∷ t.c ∷ []) corners)
    (All-head (Holds b) t.b (t.c ∷ []) rest)
    (All-head (Holds b) t.c [] (All-tail (Holds b) t.b (t.c ∷ []) rest))
