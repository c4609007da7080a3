-- The fraction of a hit: it is one, and it is from 0 to 1; zero is 0/1.
use Rattle.std.proofs.Common.{◌≡◌, ◌∙◌, ℤ, pos, negsuc, ◌*ℤ◌, ◌≤ℤ◌, ◌<ℤ◌, unsigned_abs, arith, refl, sym, ap, subst, Option, Some, None, IsSomeAnd}
use Rattle.std.specs.Int.{◌∣◌}
use Rattle.std.proofs.lemmas.Int.{ints}
use Rattle.std.proofs.lemmas.Nat.Gcd.{dvd_refl, dvd-zero}
use Rattle.std.proofs.Math.Nat.{eq-one_of_dvd-one}
use Rattle.fixed_box.specs.declared.shapes.Point.{Point}
use Rattle.fixed_box.specs.declared.shapes.Tri.{Tri}
use Rattle.segment_hit.proofs.Integers.{times_comm}
use Rattle.segment_hit.proofs.Signs.{not_negative, at_most}
use Rattle.segment_hit.proofs.Hits.{one_meeting, same_fraction, nonzero}
use Rattle.segment_hit.proofs.FractionLaws.{same_fields}
use Rattle.segment_hit.specs.Meeting.{MeetsAt, IsHit, IsFraction}
use Rattle.segment_hit.specs.declared.fraction.Frac.{Frac}

-- a fraction that is T/D and one that is an equal U/E are the same
pub same_of_equal : (f g : Frac) (T D U E : ℤ) → pos 0 <ℤ D → pos 0 <ℤ E → T *ℤ E ≡ U *ℤ D → IsFraction f T D
    → IsFraction g U E → f ≡ g
same_of_equal f g T D U E d e s a b =
    same_fields f g (same_fraction f.num f.den D T g.num g.den (nonzero D d) a
    (same_fraction g.num g.den E U T D (nonzero E e) b (s ∙ times_comm U D) ∙ times_comm T g.den))

-- a segment meets a triangle at one fraction
pub one_hit : (p q : Point) (t : Tri) (f g : Frac) → IsHit p q t f → IsHit p q t g → f ≡ g
one_hit p q t f g h k =
    same_of_equal f g h.0 h.1 k.0 k.1 h.2.positive k.2.positive (one_meeting p q t h.0 h.1 k.0 k.1 h.2 k.2) h.3 k.3

-- each fraction at which the segment meets the triangle is what `hit` answers
pub answer_is : (p q : Point) (t : Tri) (o : Option Frac) (f : Frac) →
    ((T D : ℤ) → MeetsAt p q t T D → IsSomeAnd o (λ g. IsFraction g T D)) → IsHit p q t f → o ≡ Some f
answer_is p q t None f only h = absurd (only h.0 h.1 h.2)
answer_is p q t (Some g) f only h =
    ap Some (same_of_equal g f h.0 h.1 h.0 h.1 h.2.positive h.2.positive refl (only h.0 h.1 h.2) h.3)

-- a hit is not before the start
pub hit_begun : (p q : Point) (t : Tri) (f : Frac) → IsHit p q t f → pos 0 ≤ℤ f.num
hit_begun p q t f h =
    not_negative h.1 f.den h.0 f.num h.2.positive f.above h.2.begun (sym h.3 ∙ times_comm f.num h.1)

-- and not past the end
pub hit_ended : (p q : Point) (t : Tri) (f : Frac) → IsHit p q t f → f.num ≤ℤ f.den
hit_ended p q t f h = at_most h.1 f.den h.0 f.num h.2.positive f.above h.2.ended (sym h.3 ∙ times_comm f.num h.1)

-- zero is 0/1
pub zero_is_over_one : (f : Frac) → f.num ≡ pos 0 → f.den ≡ pos 1
zero_is_over_one f e =
    let P : ℤ → Type 0 = λ x. unsigned_abs f.den ∣ unsigned_abs x in
    let one : unsigned_abs f.den ≡ 1 =
    eq-one_of_dvd-one
    (f.lowest.2 (unsigned_abs f.den) (subst P (sym e) (dvd-zero (unsigned_abs f.den)))
    (dvd_refl (unsigned_abs f.den))) in
    of_size_one f.den f.above one
  where
    of_size_one : (z : ℤ) → pos 0 <ℤ z → unsigned_abs z ≡ 1 → z ≡ pos 1
    of_size_one (pos n) h e = ap pos e
    of_size_one (negsuc n) h e = absurd (omega (arith, ints))
