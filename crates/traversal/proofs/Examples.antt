-- Worked nearest hits, tried on the definition alone.
use Rattle.std.proofs.Common.{◌≡◌, ℕ, ℤ, pos, negsuc, refl, List, [], ◌∷◌, Option, Some, None}
use Rattle.fixed_box.specs.declared.shapes.Point.{Point}
use Rattle.fixed_box.specs.declared.shapes.Tri.{Tri}
use Rattle.segment_hit.specs.HitOf.{greatest_from, lowest_terms, shares_of, negated, faced, is_inside, fraction_of, hit_of}
use Rattle.traversal.specs.NearestOf.{NearestHit, ratio_le, nearer_of, numbered_hit, nearest_from, nearest_of}

-- the point with these coordinates
abbrev point : ℤ → ℤ → ℤ → Point
point x y z = record { x = x; y = y; z = z }

-- (0,0,z), (4,0,z), (0,4,z)
abbrev corner_at : ℤ → Tri
corner_at z = record { a = point (pos 0) (pos 0) z; b = point (pos 4) (pos 0) z; c = point (pos 0) (pos 4) z }

-- a triangle that is met at a fraction
abbrev hit_at : ℕ → ℤ → ℤ → NearestHit
hit_at number num den = record { number = number; at = record { num = num; den = den } }

-- the nearest hit on the way up from (1,1,-1) to (1,1,3)
abbrev on_the_way_up : List Tri → Option NearestHit
on_the_way_up tris = nearest_of tris (point (pos 1) (pos 1) (negsuc 0)) (point (pos 1) (pos 1) (pos 3))

-- of two that are met at the same fraction the lower number is answered
the_first_of_two_alike : on_the_way_up (corner_at (pos 0) ∷ corner_at (pos 0) ∷ []) ≡ Some (hit_at 1 (pos 1) (pos 4))
unfolding nearest_of nearest_from numbered_hit nearer_of ratio_le
    hit_of fraction_of faced shares_of negated is_inside lowest_terms greatest_from
the_first_of_two_alike = refl

-- the nearer one is, though its number is higher
the_nearer_though_later : on_the_way_up (corner_at (pos 1) ∷ corner_at (pos 0) ∷ []) ≡ Some (hit_at 2 (pos 1) (pos 4))
unfolding nearest_of nearest_from numbered_hit nearer_of ratio_le
    hit_of fraction_of faced shares_of negated is_inside lowest_terms greatest_from
the_nearer_though_later = refl

-- and though the other comes behind it
the_nearer_though_earlier : on_the_way_up (corner_at (pos 1) ∷ corner_at (pos 2) ∷ []) ≡ Some (hit_at 1 (pos 1) (pos 2))
unfolding nearest_of nearest_from numbered_hit nearer_of ratio_le
    hit_of fraction_of faced shares_of negated is_inside lowest_terms greatest_from
the_nearer_though_earlier = refl

-- one that is missed does not count
after_one_missed : on_the_way_up (corner_at (negsuc 4) ∷ corner_at (pos 1) ∷ []) ≡ Some (hit_at 2 (pos 1) (pos 2))
unfolding nearest_of nearest_from numbered_hit nearer_of ratio_le
    hit_of fraction_of faced shares_of negated is_inside lowest_terms greatest_from
after_one_missed = refl

-- where none is met none is answered
of_none_that_is_met : on_the_way_up (corner_at (pos 5) ∷ []) ≡ None
unfolding nearest_of nearest_from numbered_hit nearer_of ratio_le
    hit_of fraction_of faced shares_of negated is_inside lowest_terms greatest_from
of_none_that_is_met = refl

-- nor where there is none
of_no_triangle : on_the_way_up [] ≡ None
unfolding nearest_of nearest_from numbered_hit nearer_of ratio_le
    hit_of fraction_of faced shares_of negated is_inside lowest_terms greatest_from
of_no_triangle = refl
