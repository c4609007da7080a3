-- The nearest hit as a value: a least over all triangles, the earlier one at equal fractions.
use Rattle.std.specs.Prelude.{ℕ, ◌+◌, List, [], ◌∷◌, Bool, if◌then◌else◌, ◌*ℤ◌, int_le, Option, None, Some}
use Rattle.std.specs.Option.{option_map}
use Rattle.fixed_box.specs.declared.shapes.Point.{Point}
use Rattle.fixed_box.specs.declared.shapes.Tri.{Tri}
use Rattle.segment_hit.specs.HitOf.{Ratio, ratio_of, hit_of}
use Rattle.segment_hit.specs.declared.fraction.Frac.{Frac}

-- the number of a triangle, and how much of the way it is met at
pub record NearestHit : Type 0 where
  pub number : ℕ
  pub at : Ratio

-- a hit as its parts
abbrev pub parts_of : ℕ × Frac → NearestHit
parts_of h = record { number = h.0; at = ratio_of h.1 }

-- a is at most b, by cross products: both are over a number above 0
unfoldable pub ratio_le : Ratio → Ratio → Bool
ratio_le a b = int_le (a.num *ℤ b.den) (b.num *ℤ a.den)

-- the nearer of two hits, each of which may be none; the first at equal fractions
unfoldable pub nearer_of : Option NearestHit → Option NearestHit → Option NearestHit
nearer_of None later = later
nearer_of (Some own) None = Some own
nearer_of (Some own) (Some later) = if ratio_le own.at later.at then Some own else Some later

-- the hit of the triangle of a number
unfoldable pub numbered_hit : ℕ → Point → Point → Tri → Option NearestHit
numbered_hit number p q t = option_map (λ at. record { number = number; at = at }) (hit_of p q t)

-- the nearest hit of triangles that are counted from a number on
unfoldable pub nearest_from : ℕ → List Tri → Point → Point → Option NearestHit
nearest_from number [] p q = None
nearest_from number (t ∷ tris) p q = nearer_of (numbered_hit number p q t) (nearest_from (number + 1) tris p q)

-- the nearest hit of the triangles, of which the first is 1
unfoldable pub nearest_of : List Tri → Point → Point → Option NearestHit
nearest_of tris p q = nearest_from 1 tris p q
