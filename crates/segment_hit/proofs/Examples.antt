-- Worked segments, tried on the definition alone.
use Rattle.std.proofs.Common.{◌≡◌, ℕ, ◌/◌, ap, lit<, ℤ, pos, negsuc, arith, refl, Option, Some, None}
use Rattle.std.proofs.lemmas.Int.{ints}
use Rattle.fixed_box.specs.declared.shapes.Point.{Point}
use Rattle.fixed_box.specs.declared.shapes.Box3.{Box3}
use Rattle.std.proofs.lemmas.Nat.Gcd.{IsGcd-from_zero, IsGcd-from_mod}
use Rattle.segment_hit.proofs.GreatestDivisors.{greatest_is}
use Rattle.segment_hit.specs.Entering.{IsIn}
use Rattle.segment_hit.specs.HitOf.{Ratio, greatest_from, lowest_terms, shares_of, negated, faced, is_inside, fraction_of, hit_of}

-- the point with these coordinates
abbrev point : ℤ → ℤ → ℤ → Point
point x y z = record { x = x; y = y; z = z }

-- the hit of a segment and the triangle (0,0,0), (4,0,0), (0,4,0)
abbrev hit_between : Point → Point → Option Ratio
hit_between p q = hit_of p q (record {
  a = point (pos 0) (pos 0) (pos 0);
  b = point (pos 4) (pos 0) (pos 0);
  c = point (pos 0) (pos 4) (pos 0);
})

-- a ratio
abbrev over : ℤ → ℤ → Ratio
over num den = record { num = num; den = den }

-- a segment through the triangle meets it half way
half : hit_between (point (pos 1) (pos 1) (negsuc 0)) (point (pos 1) (pos 1) (pos 1)) ≡ Some (over (pos 1) (pos 2))
unfolding hit_of fraction_of faced shares_of negated is_inside lowest_terms greatest_from
half = refl

-- an edge counts
on_an_edge : hit_between (point (pos 2) (pos 2) (negsuc 0)) (point (pos 2) (pos 2) (pos 3)) ≡ Some (over (pos 1) (pos 4))
unfolding hit_of fraction_of faced shares_of negated is_inside lowest_terms greatest_from
on_an_edge = refl

-- so does the end of the segment
at_the_end : hit_between (point (pos 1) (pos 1) (negsuc 0)) (point (pos 1) (pos 1) (pos 0)) ≡ Some (over (pos 1) (pos 1))
unfolding hit_of fraction_of faced shares_of negated is_inside lowest_terms greatest_from
at_the_end = refl

-- and its start
at_the_start : hit_between (point (pos 1) (pos 1) (pos 0)) (point (pos 1) (pos 1) (pos 5)) ≡ Some (over (pos 0) (pos 1))
unfolding hit_of fraction_of faced shares_of negated is_inside lowest_terms greatest_from
at_the_start = refl

-- a segment beyond the plane misses
beyond_the_plane : hit_between (point (pos 1) (pos 1) (pos 1)) (point (pos 1) (pos 1) (pos 3)) ≡ None
unfolding hit_of fraction_of faced shares_of negated is_inside lowest_terms greatest_from
beyond_the_plane = refl

-- so does one in the plane
in_the_plane : hit_between (point (negsuc 0) (pos 1) (pos 0)) (point (pos 5) (pos 1) (pos 0)) ≡ None
unfolding hit_of fraction_of faced shares_of negated is_inside lowest_terms greatest_from
in_the_plane = refl

-- either side is met
from_above : hit_between (point (pos 1) (pos 1) (pos 1)) (point (pos 1) (pos 1) (negsuc 2)) ≡ Some (over (pos 1) (pos 4))
unfolding hit_of fraction_of faced shares_of negated is_inside lowest_terms greatest_from
from_above = refl

-- a segment that ends short of the plane misses
short_of_the_plane : hit_between (point (pos 1) (pos 1) (negsuc 2)) (point (pos 1) (pos 1) (negsuc 0)) ≡ None
unfolding hit_of fraction_of faced shares_of negated is_inside lowest_terms greatest_from
short_of_the_plane = refl

-- so does one that passes outside an edge
past_an_edge : hit_between (point (pos 3) (pos 2) (negsuc 0)) (point (pos 3) (pos 2) (pos 1)) ≡ None
unfolding hit_of fraction_of faced shares_of negated is_inside lowest_terms greatest_from
past_an_edge = refl

-- in steps of a 64th: by Euclid, since the search would be long
half_in_steps : hit_of (point (pos 64) (pos 64) (negsuc 63)) (point (pos 64) (pos 64) (pos 64)) (record {
  a = point (pos 0) (pos 0) (pos 0);
  b = point (pos 256) (pos 0) (pos 0);
  c = point (pos 0) (pos 256) (pos 0);
}) ≡ Some (over (pos 1) (pos 2))
unfolding hit_of fraction_of faced shares_of negated is_inside lowest_terms
half_in_steps =
    let time : ℕ = 4194304 in
    let whole : ℕ = 8388608 in
    let divisor = IsGcd-from_mod time whole time (IsGcd-from_mod whole time time (IsGcd-from_zero time 0 refl)) in
    ap (λ (g : ℕ). Some (over (pos (time / g)) (pos (whole / g)))) (greatest_is time whole time (lit< tt) divisor)

-- the box from (0,0,0) to (4,4,4)
abbrev cube : Box3
cube = record {
  lo = point (pos 0) (pos 0) (pos 0);
  hi = point (pos 4) (pos 4) (pos 4);
  x_rises = omega (arith, ints);
  y_rises = omega (arith, ints);
  z_rises = omega (arith, ints);
}

-- a segment that touches its corner (0,0,0) alone, at 1/3 of the way
in_at_a_corner : IsIn (point (negsuc 0) (pos 1) (pos 1)) (point (pos 2) (negsuc 1) (negsuc 1)) cube (pos 1) (pos 3)
in_at_a_corner = record {
  positive = omega (arith, ints);
  begun = omega (arith, ints);
  ended = omega (arith, ints);
  on_x = record { low = omega (arith, ints); high = omega (arith, ints) };
  on_y = record { low = omega (arith, ints); high = omega (arith, ints) };
  on_z = record { low = omega (arith, ints); high = omega (arith, ints) };
}

-- and is not in it at 1/2
out_behind_the_corner : IsIn (point (negsuc 0) (pos 1) (pos 1)) (point (pos 2) (negsuc 1) (negsuc 1)) cube (pos 1) (pos 2)
    → ⊥
out_behind_the_corner h = let low = h.on_y.low in omega (arith, ints)
