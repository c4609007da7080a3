-- The hit of a segment and a triangle as a value: a quotient of two determinants in lowest terms, or none.
use Rattle.std.specs.Prelude.{ℕ, zero, suc, ◌/◌, ◌%◌, ◌==◌, ◌&&◌, Bool, if◌then◌else◌, ℤ, pos, ◌+ℤ◌, neg_ℤ, unsigned_abs, int_le, int_lt, Option, Some, None}
use Rattle.fixed_box.specs.declared.shapes.Point.{Point}
use Rattle.fixed_box.specs.declared.shapes.Tri.{Tri}
use Rattle.segment_hit.specs.Vectors.{from_to, dot, cross, normal}
use Rattle.segment_hit.specs.declared.fraction.Frac.{Frac}

-- a whole number over another
pub record Ratio : Type 0 where
  pub num : ℤ
  pub den : ℤ

-- the two parts of a fraction
abbrev pub ratio_of : Frac → Ratio
ratio_of f = record { num = f.num; den = f.den }

-- the greatest number, from a bound down to 1, that divides both a and b
unfoldable pub greatest_from : ℕ → ℕ → ℕ → ℕ
greatest_from zero a b = 1
greatest_from (suc n) a b = if a % suc n == 0 && b % suc n == 0 then suc n else greatest_from n a b

-- a/b, for b above 0: both divided by the greatest number that divides both
unfoldable pub lowest_terms : ℕ → ℕ → Ratio
lowest_terms a b = let shared = greatest_from b a b in record { num = pos (a / shared); den = pos (b / shared) }

-- (q - p) . n: how far the way from p to q crosses the plane
abbrev pub whole_of : Point → Point → Tri → ℤ
whole_of p q t = dot (from_to p q) (normal t)

-- (a - p) . n: how much of that lies before the plane
abbrev pub time_of : Point → Tri → ℤ
time_of p t = dot (from_to p t.a) (normal t)

-- (c - a) . ((a - p) x (q - p)): the weight of the second corner
abbrev pub second_of : Point → Point → Tri → ℤ
second_of p q t = dot (from_to t.a t.c) (cross (from_to p t.a) (from_to p q))

-- -(b - a) . ((a - p) x (q - p)): the weight of the third corner
abbrev pub third_of : Point → Point → Tri → ℤ
third_of p q t = neg_ℤ (dot (from_to t.a t.b) (cross (from_to p t.a) (from_to p q)))

-- a whole, and what the way to the plane, the second corner and the third have of it
pub record Shares : Type 0 where
  pub whole : ℤ
  pub time : ℤ
  pub second : ℤ
  pub third : ℤ

-- the shares of a segment and a triangle
unfoldable pub shares_of : Point → Point → Tri → Shares
shares_of p q t = record {
  whole = whole_of p q t;
  time = time_of p t;
  second = second_of p q t;
  third = third_of p q t;
}

-- each with the other sign
unfoldable pub negated : Shares → Shares
negated m = record { whole = neg_ℤ m.whole; time = neg_ℤ m.time; second = neg_ℤ m.second; third = neg_ℤ m.third }

-- the same ratios, over a whole that is not below 0
unfoldable pub faced : Shares → Shares
faced m = if int_lt m.whole (pos 0) then negated m else m

-- the time is from 0 to the whole, and no corner has a weight below 0: the first corner's is what the others leave
unfoldable pub is_inside : Shares → Bool
is_inside m =
    int_le (pos 0) m.time && int_le m.time m.whole && int_le (pos 0) m.second && int_le (pos 0) m.third
    && int_le (m.second +ℤ m.third) m.whole

-- time/whole in lowest terms, where the whole is above 0 and the meeting is inside
unfoldable pub fraction_of : Shares → Option Ratio
fraction_of m =
    if int_lt (pos 0) m.whole && is_inside m
    then Some (lowest_terms (unsigned_abs m.time) (unsigned_abs m.whole))
    else None

-- how much of the way from p to q it is to where the segment meets the triangle, or none
unfoldable pub hit_of : Point → Point → Tri → Option Ratio
hit_of p q t = fraction_of (faced (shares_of p q t))
