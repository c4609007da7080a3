-- Where the determinants pass the tests the segment meets the triangle, and only there; all such fractions are one.
use Rattle.std.proofs.Common.{◌≡◌, ◌≢◌, ℤ, pos, ◌+ℤ◌, ◌-ℤ◌, ◌*ℤ◌, ◌≤ℤ◌, ◌<ℤ◌, arith, sym, ◌∙◌, ap, Option, Some, None, IfSome, IsSomeAnd}
use Rattle.std.proofs.lemmas.Int.{ints}
use Rattle.fixed_box.specs.declared.shapes.Point.{Point}
use Rattle.fixed_box.specs.declared.shapes.Tri.{Tri}
use Rattle.segment_hit.proofs.Integers.{parts, same_diff, to_diff, linear, times_comm, moved, add-times, times-add}
use Rattle.segment_hit.proofs.Signs.{not_negative, at_most, cancel_nonzero}
use Rattle.segment_hit.proofs.Combinations.{time_is}
use Rattle.segment_hit.proofs.Divisions.{Solves, divides, weighs}
use Rattle.segment_hit.specs.Vectors.{from_to}
use Rattle.segment_hit.specs.HitOf.{Shares, whole_of, time_of}
use Rattle.segment_hit.specs.Determinants.{IsInside}
use Rattle.segment_hit.specs.Meeting.{MeetsAt, IsHit, IsFraction}
use Rattle.segment_hit.specs.declared.fraction.Frac.{Frac}

-- determinants that pass the tests are a meeting
pub meets : (p q : Point) (t : Tri) (m : Shares) → whole_of p q t ≢ pos 0 → Solves p q t m
    → pos 0 <ℤ m.whole → IsInside m → MeetsAt p q t m.time m.whole
meets p q t m c a n i = record {
  crosses = c;
  positive = n;
  begun = i.begun;
  ended = i.ended;
  weights = (m.whole -ℤ m.second -ℤ m.third, m.second, m.third, weighs p q t m a.combines i);
}

-- numbers in the ratio of the determinants pass the tests as these do
inside : (D T u v w : ℤ) (m : Shares) → pos 0 <ℤ D → pos 0 <ℤ m.whole → pos 0 ≤ℤ T → T ≤ℤ D → pos 0 ≤ℤ u
    → pos 0 ≤ℤ v → pos 0 ≤ℤ w → u +ℤ v +ℤ w ≡ D →
    T *ℤ m.whole ≡ D *ℤ m.time → v *ℤ m.whole ≡ D *ℤ m.second → w *ℤ m.whole ≡ D *ℤ m.third → IsInside m
inside D T u v w m d n lo hi pu pv pw e et ev ew = record {
  begun = not_negative D m.whole T m.time d n lo et;
  ended = at_most D m.whole T m.time d n hi et;
  second_weight = not_negative D m.whole v m.second d n pv ev;
  third_weight = not_negative D m.whole w m.third d n pw ew;
  first_weight =
      let s : (v +ℤ w) ≤ℤ D = omega (arith, ints) in
      at_most D m.whole (v +ℤ w) (m.second +ℤ m.third) d n s
      (omega (arith, linear, add-times v w m.whole, times-add D m.second m.third));
}

-- where the segment meets the triangle the determinants pass the tests, at that fraction
pub passes : (p q : Point) (t : Tri) (m : Shares) (T D : ℤ) → Solves p q t m → pos 0 <ℤ m.whole
    → MeetsAt p q t T D → IsInside m × (T *ℤ m.whole ≡ D *ℤ m.time)
passes p q t m T D a n h =
    let u = h.weights.0 in
    let v = h.weights.1 in
    let w = h.weights.2 in
    let k = h.weights.3 in
    let c = divides p q t T D u v w k in (
      inside D T u v w m h.positive n h.begun h.ended k.first k.second k.third k.whole
          (a.time_is D T v w c) (a.second_is D T v w c) (a.third_is D T v w c),
      a.time_is D T v w c,
    )

-- num/den = S/N and T/D = S/N, so num/den = T/D
pub same_fraction : (num den N S T D : ℤ) → N ≢ pos 0 → num *ℤ N ≡ S *ℤ den → T *ℤ N ≡ D *ℤ S → num *ℤ D ≡ T *ℤ den
same_fraction num den N S T D n e k =
    cancel_nonzero (num *ℤ D) (T *ℤ den) N n
    (moved num D N ∙ ap (λ (x : ℤ). x *ℤ D) e ∙ turned_about S den D ∙ ap (λ (x : ℤ). x *ℤ den) (sym k) ∙ moved T N den)
  where
    turned_about : (a b c : ℤ) → (a *ℤ b) *ℤ c ≡ (c *ℤ a) *ℤ b
    turned_about a b c = rw (← parts a, ← parts b, ← parts c) (simp to_diff (same_diff _ _ _ _ (omega arith)))

-- what is above 0 is not 0
pub nonzero : (N : ℤ) → pos 0 <ℤ N → N ≢ pos 0
nonzero N h = omega (arith, ints)

-- at a meeting, T is to D as the determinants are
time_of_meeting : (p q : Point) (t : Tri) (T D : ℤ) → MeetsAt p q t T D → T *ℤ whole_of p q t ≡ D *ℤ time_of p t
time_of_meeting p q t T D h =
    time_is D T h.weights.1 h.weights.2 (from_to p t.a) (from_to p q) (from_to t.a t.b) (from_to t.a t.c)
    (divides p q t T D h.weights.0 h.weights.1 h.weights.2 h.weights.3)

-- all fractions at which a segment meets a triangle are one
pub one_meeting : (p q : Point) (t : Tri) (T D U E : ℤ) → MeetsAt p q t T D → MeetsAt p q t U E → T *ℤ E ≡ U *ℤ D
one_meeting p q t T D U E h k =
    same_fraction T D (whole_of p q t) (time_of p t) U E h.crosses (time_of_meeting p q t T D h
    ∙ times_comm D (time_of p t)) (time_of_meeting p q t U E k)

-- what is answered where the tests pass is a hit
pub hit_found : (p q : Point) (t : Tri) (m : Shares) (o : Option Frac) → whole_of p q t ≢ pos 0
    → Solves p q t m → pos 0 <ℤ m.whole →
    IfSome o (λ f. IsInside m × IsFraction f m.time m.whole) → IfSome o (λ f. IsHit p q t f)
hit_found p q t m None c a n h = h
hit_found p q t m (Some f) c a n h = (m.time, m.whole, meets p q t m c a n h.0, h.1)

-- and each meeting is at the fraction that is answered
pub hit_only : (p q : Point) (t : Tri) (m : Shares) (o : Option Frac) → Solves p q t m
    → pos 0 <ℤ m.whole →
    (IsInside m → IsSomeAnd o (λ f. IsFraction f m.time m.whole)) → (T D : ℤ) → MeetsAt p q t T D
    → IsSomeAnd o (λ f. IsFraction f T D)
hit_only p q t m None a n h T D k = h (passes p q t m T D a n k).0
hit_only p q t m (Some f) a n h T D k =
    let e = passes p q t m T D a n k in
    same_fraction f.num f.den m.whole m.time T D (nonzero m.whole n) (h e.0) e.1
