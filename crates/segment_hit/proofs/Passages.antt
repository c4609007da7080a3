-- Where a segment enters and leaves a box, from its axes.
use Rattle.std.proofs.Common.{◌≡◌, ◌∙◌, ◌≤◌, ℤ, pos, ◌*ℤ◌, ◌≤ℤ◌, ◌<ℤ◌, arith, ap, sym, subst, to_z, of_z, w32, w64, unsigned_abs}
use Rattle.std.proofs.lemmas.Int.{ints}
use Rattle.fixed_box.specs.declared.shapes.Point.{Point}
use Rattle.fixed_box.specs.declared.shapes.Box3.{Box3}
use Rattle.fixed_box.specs.World.{IsCoordinate}
use Rattle.segment_hit.specs.Stretches.{IsFrom, IsUpTo, IsPart}
use Rattle.segment_hit.proofs.Integers.{times_comm, times_assoc, times-zero}
use Rattle.segment_hit.proofs.Signs.{orderly, grows}
use Rattle.segment_hit.proofs.Chains.{upwards, grows_strictly}
use Rattle.segment_hit.specs.declared.line.Axis.{Axis}
use Rattle.segment_hit.specs.declared.line.Line.{Line}
use Rattle.segment_hit.specs.declared.line.Place.{Place}
use Rattle.segment_hit.specs.Lines.{IsAxisOf, entry_of, exit_of, IsLineOf, IsPassageOf}
use Rattle.segment_hit.specs.Places.{IsLaterPlace, IsSoonerPlace}
use Rattle.segment_hit.proofs.Passed.{coordinate_passed, number_passed}
use Rattle.std.specs.Prelude.{◌*◌}
use Rattle.segment_hit.specs.declared.vectors.TheConstants.{SPAN, SQUARE}

-- a product of numbers above 0 is above 0
pub product_above : (x y : ℤ) → pos 0 <ℤ x → pos 0 <ℤ y → pos 0 <ℤ (x *ℤ y)
product_above x y a b =
    let k = grows_strictly (pos 0) x y b a in
    let nought : pos 0 *ℤ y ≡ pos 0 = times_comm (pos 0) y ∙ times-zero y in
    omega (arith, orderly, k, nought)

-- three ways, the second first
second_first : (x y z : ℤ) → x *ℤ (y *ℤ z) ≡ y *ℤ (x *ℤ z)
second_first x y z = sym (times_assoc x y z) ∙ (ap (λ m. m *ℤ z) (times_comm x y) ∙ times_assoc y x z)

-- and the third first
third_first : (x y z : ℤ) → x *ℤ (y *ℤ z) ≡ z *ℤ (x *ℤ y)
third_first x y z = sym (times_assoc x y z) ∙ times_comm (x *ℤ y) z

-- three ways that were passed on, the product of the last two, and the product of all
module _ (x y z yz whole : ℤ) (x_small : unsigned_abs x ≤ SPAN) (y_small : unsigned_abs y ≤ SPAN)
    (z_small : unsigned_abs z ≤ SPAN) (yz_small : unsigned_abs yz ≤ SPAN * SPAN)
    (whole_small : unsigned_abs whole ≤ SPAN * SQUARE)
    (yz_is : yz ≡ to_z w64 (of_z w64 y) *ℤ to_z w64 (of_z w64 z))
    (whole_is : whole ≡ to_z w64 (of_z w64 x) *ℤ to_z w64 (of_z w64 yz)) where
  -- passed on, they are as they were
  x_passed : to_z w64 (of_z w64 x) ≡ x
  x_passed = number_passed x SPAN x_small (omega arith)

  -- the second
  y_passed : to_z w64 (of_z w64 y) ≡ y
  y_passed = number_passed y SPAN y_small (omega arith)

  -- the third
  z_passed : to_z w64 (of_z w64 z) ≡ z
  z_passed = number_passed z SPAN z_small (omega arith)

  -- and the product of all is what it says
  whole_passed : to_z w64 (of_z w64 whole) ≡ x *ℤ (y *ℤ z)
  whole_passed =
      let product = rw (y_passed, z_passed) at yz_is in
      let value = rw (x_passed, number_passed yz (SPAN * SPAN) yz_small (omega arith)) at whole_is in
      number_passed whole (SPAN * SQUARE) whole_small (omega arith) ∙ (value ∙ ap (λ m. x *ℤ m) product)

  -- so the second way times the product of the others is it
  pub whole_second : (xz : ℤ) → unsigned_abs xz ≤ SPAN * SPAN →
      xz ≡ to_z w64 (of_z w64 x) *ℤ to_z w64 (of_z w64 z) →
      to_z w64 (of_z w64 whole) ≡ to_z w64 (of_z w64 y) *ℤ to_z w64 (of_z w64 xz)
  whole_second xz small xz_is =
      let product = rw (x_passed, z_passed) at xz_is in
      rw (whole_passed, y_passed, number_passed xz (SPAN * SPAN) small (omega arith), product) (second_first x y z)

  -- and so is the third
  pub whole_third : (xy : ℤ) → unsigned_abs xy ≤ SPAN * SPAN →
      xy ≡ to_z w64 (of_z w64 x) *ℤ to_z w64 (of_z w64 y) →
      to_z w64 (of_z w64 whole) ≡ to_z w64 (of_z w64 z) *ℤ to_z w64 (of_z w64 xy)
  whole_third xy small xy_is =
      let product = rw (x_passed, y_passed) at xy_is in
      rw (whole_passed, z_passed, number_passed xy (SPAN * SPAN) small (omega arith), product) (third_first x y z)

-- an axis of coordinates that were passed on
pub axis_passed : (p q w v : ℤ) (a b : Axis) → IsCoordinate p → IsCoordinate q → b ≡ a → v ≡ w →
    IsAxisOf (to_z w32 (of_z w32 p)) (to_z w32 (of_z w32 q)) w a → IsAxisOf p q v b
axis_passed p q w v a b i j same long h =
    subst (λ (x : Axis). IsAxisOf p q v x) (sym same)
    (subst (λ z. IsAxisOf p q z a) (sym long)
    (subst (λ z. IsAxisOf p z w a) (coordinate_passed q j)
    (subst (λ z. IsAxisOf z (to_z w32 (of_z w32 q)) w a) (coordinate_passed p i) h)))

-- the later of two places
pub later_second : (a b : Place) → a.at <ℤ b.at → IsLaterPlace a b b
later_second a b lt whole T E part = (
  λ h.
      let k = grows a.at b.at E (upwards E part.positive) (omega (arith, ints, lt)) in
      (omega (arith, orderly, h, k), h),
  λ h. h.1,
)

-- where the first is later
pub later_first : (a b : Place) → b.at ≤ℤ a.at → IsLaterPlace a b a
later_first a b le whole T E part = (
  λ h.
      let k = grows b.at a.at E (upwards E part.positive) le in
      (h, omega (arith, orderly, h, k)),
  λ h. h.0,
)

-- and the sooner
pub sooner_first : (a b : Place) → a.at <ℤ b.at → IsSoonerPlace a b a
sooner_first a b lt whole T E part = (
  λ h.
      let k = grows a.at b.at E (upwards E part.positive) (omega (arith, ints, lt)) in
      (h, omega (arith, orderly, h, k)),
  λ h. h.0,
)

-- where the second is sooner
pub sooner_second : (a b : Place) → b.at ≤ℤ a.at → IsSoonerPlace a b b
sooner_second a b le whole T E part = (
  λ h.
      let k = grows b.at a.at E (upwards E part.positive) le in
      (omega (arith, orderly, h, k), h),
  λ h. h.1,
)

module _ (p q : Point) (b : Box3) (l : Line) (o x y z tx ty tz u v w s t : Place) (line : IsLineOf p q l)
    (zero_is : o.at ≡ pos 0) (ex : x.at ≡ entry_of l.x b.lo.x b.hi.x) (ey : y.at ≡ entry_of l.y b.lo.y b.hi.y)
    (ez : z.at ≡ entry_of l.z b.lo.z b.hi.z) (fx : tx.at ≡ exit_of l.x b.lo.x b.hi.x)
    (fy : ty.at ≡ exit_of l.y b.lo.y b.hi.y) (fz : tz.at ≡ exit_of l.z b.lo.z b.hi.z)
    (u_is : IsLaterPlace o x u) (v_is : IsLaterPlace u y v) (w_is : IsLaterPlace v z w)
    (s_is : IsSoonerPlace tx ty s) (t_is : IsSoonerPlace s tz t) where
  -- every part of the way is past its beginning
  past_beginning : (T E : ℤ) → IsPart T E → IsFrom o.at l.whole T E
  past_beginning T E part =
      let m = grows (pos 0) T l.whole (upwards l.whole l.above) part.begun in
      let n : pos 0 *ℤ l.whole ≡ pos 0 = times_comm (pos 0) l.whole ∙ times-zero l.whole in
      let r : pos 0 *ℤ E ≡ pos 0 = times_comm (pos 0) E ∙ times-zero E in
      subst (λ a. IsFrom a l.whole T E) (sym zero_is) (omega (arith, orderly, m, n, r))

  -- the passage through a box
  pub passage_of : IsPassageOf p q b l.whole (record { enter = w; leave = t })
  passage_of T E part = (
    λ h.
        let vz = (w_is l.whole T E part).0 h.begun in
        let uy = (v_is l.whole T E part).0 vz.0 in
        let ox = (u_is l.whole T E part).0 uy.0 in
        let sz = (t_is l.whole T E part).0 h.ended in
        let xy = (s_is l.whole T E part).0 sz.0 in
        record {
          positive = part.positive;
          begun = part.begun;
          ended = part.ended;
          on_x = (line.on_x b.lo.x b.hi.x T E part).0 (record {
            begun = subst (λ a. IsFrom a l.whole T E) ex ox.1;
            ended = subst (λ a. IsUpTo a l.whole T E) fx xy.0;
          });
          on_y = (line.on_y b.lo.y b.hi.y T E part).0 (record {
            begun = subst (λ a. IsFrom a l.whole T E) ey uy.1;
            ended = subst (λ a. IsUpTo a l.whole T E) fy xy.1;
          });
          on_z = (line.on_z b.lo.z b.hi.z T E part).0 (record {
            begun = subst (λ a. IsFrom a l.whole T E) ez vz.1;
            ended = subst (λ a. IsUpTo a l.whole T E) fz sz.1;
          });
        },
    λ h.
        let i = (line.on_x b.lo.x b.hi.x T E part).1 h.on_x in
        let j = (line.on_y b.lo.y b.hi.y T E part).1 h.on_y in
        let k = (line.on_z b.lo.z b.hi.z T E part).1 h.on_z in
        record {
          begun = (w_is l.whole T E part).1 (
            (v_is l.whole T E part).1 (
              (u_is l.whole T E part).1 (past_beginning T E part, subst (λ a. IsFrom a l.whole T E) (sym ex) i.begun),
              subst (λ a. IsFrom a l.whole T E) (sym ey) j.begun,
            ),
            subst (λ a. IsFrom a l.whole T E) (sym ez) k.begun,
          );
          ended = (t_is l.whole T E part).1 (
            (s_is l.whole T E part).1 (
              subst (λ a. IsUpTo a l.whole T E) (sym fx) i.ended,
              subst (λ a. IsUpTo a l.whole T E) (sym fy) j.ended,
            ),
            subst (λ a. IsUpTo a l.whole T E) (sym fz) k.ended,
          );
        },
  )
