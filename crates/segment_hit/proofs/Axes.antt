-- Where the way from one coordinate to another is between two others, as a stretch of the fractions of the way.
use Rattle.std.proofs.Common.{◌≡◌, ◌↔◌, ℤ, pos, ◌+ℤ◌, ◌-ℤ◌, ◌*ℤ◌, ◌≤ℤ◌, ◌<ℤ◌, arith, to_z, of_z, w32, Option, Some, None}
use Rattle.std.proofs.lemmas.Int.{ints, to_z-of_z, fits_signed_from_abs}
use Rattle.fixed_box.specs.World.{IsCoordinate}
use Rattle.segment_hit.proofs.Integers.{linear, times_comm, times-zero, sub-times, times-sub}
use Rattle.segment_hit.proofs.Signs.{orderly, grows, shrinks}
use Rattle.segment_hit.proofs.Chains.{upwards, apart}
use Rattle.segment_hit.specs.Entering.{IsBetweenAt}
use Rattle.segment_hit.specs.Stretches.{IsOnWay, IsPart, Covers, IsStretchOf, IsWholeWay}
use Rattle.segment_hit.specs.declared.stretch.Stretch.{Stretch}

-- a coordinate at T/D of the way is at least lo where T/D is at least (lo - from)/(to - from)
pub low_side : (from to lo T D : ℤ) →
    ((D *ℤ lo) ≤ℤ (D *ℤ from +ℤ T *ℤ (to -ℤ from))) ↔ (((lo -ℤ from) *ℤ D) ≤ℤ (T *ℤ (to -ℤ from)))
low_side from to lo T D =
    let e : (lo -ℤ from) *ℤ D ≡ D *ℤ lo -ℤ D *ℤ from =
    omega (arith, linear, sub-times lo from D, times_comm lo D, times_comm from D) in
    (λ h. omega (arith, orderly, h, e), λ h. omega (arith, orderly, h, e))

-- and at most hi where T/D is at most (hi - from)/(to - from)
pub high_side : (from to hi T D : ℤ) →
    ((D *ℤ from +ℤ T *ℤ (to -ℤ from)) ≤ℤ (D *ℤ hi)) ↔ ((T *ℤ (to -ℤ from)) ≤ℤ ((hi -ℤ from) *ℤ D))
high_side from to hi T D =
    let e : (hi -ℤ from) *ℤ D ≡ D *ℤ hi -ℤ D *ℤ from =
    omega (arith, linear, sub-times hi from D, times_comm hi D, times_comm from D) in
    (λ h. omega (arith, orderly, h, e), λ h. omega (arith, orderly, h, e))

-- on an axis on which the way rises
rising : (from to lo hi T D : ℤ) →
    IsBetweenAt from to lo hi T D ↔ IsOnWay (lo -ℤ from) (hi -ℤ from) (to -ℤ from) T D
rising from to lo hi T D = (
  λ h. record { begun = (low_side from to lo T D).0 h.low; ended = (high_side from to hi T D).0 h.high },
  λ h. record { low = (low_side from to lo T D).1 h.begun; high = (high_side from to hi T D).1 h.ended },
)

-- a difference by a number, turned about
turned_about : (x y c : ℤ) → (x -ℤ y) *ℤ c +ℤ (y -ℤ x) *ℤ c ≡ pos 0
turned_about x y c = omega (arith, linear, sub-times x y c, sub-times y x c)

-- on an axis on which it falls, turned over
falling : (from to lo hi T D : ℤ) →
    IsBetweenAt from to lo hi T D ↔ IsOnWay (from -ℤ hi) (from -ℤ lo) (from -ℤ to) T D
falling from to lo hi T D =
    let way : T *ℤ (from -ℤ to) +ℤ T *ℤ (to -ℤ from) ≡ pos 0 =
    omega (arith, linear, times-sub T from to, times-sub T to from) in
    let low = turned_about from lo D in
    let high = turned_about from hi D in (
      λ h.
          let r = (rising from to lo hi T D).0 h in
          record {
            begun = omega (arith, orderly, r.ended, way, high);
            ended = omega (arith, orderly, r.begun, way, low);
          },
      λ h. (rising from to lo hi T D).1
          (record {
            begun = omega (arith, orderly, h.ended, way, low);
            ended = omega (arith, orderly, h.begun, way, high);
          }),
    )

-- where what holds of one thing holds of two others alike, these hold alike
both_ways_on : {P Q R : Type 0} → (P ↔ Q) → (R ↔ Q) → P ↔ R
both_ways_on f g = (λ p. g.1 (f.0 p), λ r. f.1 (g.0 r))

-- the stretch of a rising way
pub span_rising : (o : Option Stretch) (from to lo hi low high way : ℤ) →
    low ≡ lo -ℤ from → high ≡ hi -ℤ from → way ≡ to -ℤ from
    → IsStretchOf (λ T D. IsOnWay low high way T D) o → IsStretchOf (λ T D. IsBetweenAt from to lo hi T D) o
span_rising o from to lo hi low high way l h w k T D part =
    both_ways_on (k T D part) (rw (l, h, w) (rising from to lo hi T D))

-- the stretch of a falling way
pub span_falling : (o : Option Stretch) (from to lo hi low high way : ℤ) →
    low ≡ from -ℤ hi → high ≡ from -ℤ lo → way ≡ from -ℤ to
    → IsStretchOf (λ T D. IsOnWay low high way T D) o → IsStretchOf (λ T D. IsBetweenAt from to lo hi T D) o
span_falling o from to lo hi low high way l h w k T D part =
    both_ways_on (k T D part) (rw (l, h, w) (falling from to lo hi T D))

-- where the ends are one, the way stays there
resting : (from to T D : ℤ) → from ≡ to → D *ℤ from +ℤ T *ℤ (to -ℤ from) ≡ from *ℤ D
resting from to T D e =
    let z : to -ℤ from ≡ pos 0 = omega (arith, ints) in
    rw z (omega (arith, linear, times-zero T, times_comm D from))

-- the whole way covers every part of it
pub whole_covers : (s : Stretch) (T D : ℤ) → IsWholeWay s → IsPart T D → Covers s T D
whole_covers s T D w k =
    let begun = k.begun in
    let ended = k.ended in
    record {
      entered = rw (w.enter_num, w.enter_den)
          (omega (arith, orderly, times_comm (pos 0) D, times-zero D, times-one T, begun));
      left = rw (w.leave_num, w.leave_den)
          (omega (arith, orderly, times_comm (pos 1) D, times-one D, times-one T, ended));
    }
  where
    times-one : (z : ℤ) → z *ℤ pos 1 ≡ z
    times-one z = omega (arith, ints)

-- and is between two numbers throughout
pub span_resting : (s : Stretch) (from to lo hi : ℤ) → IsWholeWay s → from ≡ to → lo ≤ℤ from → from ≤ℤ hi
    → IsStretchOf (λ T D. IsBetweenAt from to lo hi T D) (Some s)
span_resting s from to lo hi w e l h T D k = (
  λ c. record {
    low =
        let x = grows lo from D (upwards D k.positive) l in
        omega (arith, orderly, x, resting from to T D e, times_comm D lo);
    high =
        let x = grows from hi D (upwards D k.positive) h in
        omega (arith, orderly, x, resting from to T D e, times_comm D hi);
  },
  λ c. whole_covers s T D w k,
)

-- or nowhere
pub span_below : (from to lo hi : ℤ) → from ≡ to → from <ℤ lo → IsStretchOf (λ T D. IsBetweenAt from to lo hi T D) None
span_below from to lo hi e l T D k = (
  λ c. absurd c,
  λ h.
      let p = h.low in
      let x : (lo *ℤ D) ≤ℤ (from *ℤ D) = omega (arith, orderly, p, resting from to T D e, times_comm D lo) in
      apart from lo l (shrinks lo from D k.positive x),
)

-- nor where it rests above the slab
pub span_above : (from to lo hi : ℤ) → from ≡ to → hi <ℤ from → IsStretchOf (λ T D. IsBetweenAt from to lo hi T D) None
span_above from to lo hi e l T D k = (
  λ c. absurd c,
  λ h.
      let p = h.high in
      let x : (from *ℤ D) ≤ℤ (hi *ℤ D) = omega (arith, orderly, p, resting from to T D e, times_comm D hi) in
      apart hi from l (shrinks from hi D k.positive x),
)

-- a coordinate of the world is unchanged where it is passed on
as_passed : (x : ℤ) → IsCoordinate x → to_z w32 (of_z w32 x) ≡ x
as_passed x h = to_z-of_z w32 x (fits_signed_from_abs w32 x (omega (arith, ints, h)))

-- and so is the stretch between coordinates of the world
pub span_as_passed : (o : Option Stretch) (from to lo hi : ℤ) →
    IsCoordinate from → IsCoordinate to → IsCoordinate lo → IsCoordinate hi →
    IsStretchOf (λ T D. IsBetweenAt (to_z w32 (of_z w32 from)) (to_z w32 (of_z w32 to)) (to_z w32 (of_z w32 lo))
    (to_z w32 (of_z w32 hi)) T D) o → IsStretchOf (λ T D. IsBetweenAt from to lo hi T D) o
span_as_passed o from to lo hi f t l h k = rw (as_passed from f, as_passed to t, as_passed lo l, as_passed hi h) at k
