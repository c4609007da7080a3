-- The search for the greatest number that divides two others finds their greatest common divisor.
use Rattle.std.proofs.Common.{◌≡◌, ℕ, zero, suc, ◌+◌, ◌/◌, ◌%◌, ◌<◌, ◌≤◌, ◌&&◌, ℤ, pos, negsuc, ◌≤ℤ◌, ◌<ℤ◌, unsigned_abs, arith, refl, sym, subst, inl, inr}
use Rattle.std.specs.Prelude.{◌==◌}
use Rattle.std.specs.Int.{IsGcd, ◌∣◌}
use Rattle.std.proofs.lemmas.Int.{ints}
use Rattle.std.proofs.lemmas.Bool.{cases_eq, both_ways, and_parts, and_from, eqb-true, eq-eqb, cond_both}
use Rattle.std.proofs.lemmas.Nat.Gcd.{dvd_of_mod-eq-zero, mod-eq-zero_of_dvd, le_of_dvd, le_from_IsGcd}
use native.Mathlib.Nat.{pos_of_dvd_of_pos}
use Rattle.segment_hit.proofs.LowestTerms.{gcd_below, reduced, same_value, some_left}
use Rattle.segment_hit.specs.HitOf.{ratio_of, greatest_from, lowest_terms}
use Rattle.segment_hit.specs.Meeting.{IsFraction}
use Rattle.segment_hit.specs.declared.fraction.Frac.{Frac}

-- from a bound that it is not above, the search comes to the greatest common divisor
search_is : (n a b g : ℕ) → IsGcd a b g → 0 < g → g ≤ n → greatest_from n a b ≡ g
unfolding greatest_from
search_is zero a b g h some le = absurd (omega arith)
search_is (suc n) a b g h some le =
    let in_a = a % suc n == 0 in
    let in_b = b % suc n == 0 in
    cond_both (in_a && in_b) (suc n) (greatest_from n a b) (λ x. x ≡ g)
    (λ e.
    let both = and_parts in_a in_b e in
    let most : suc n ≤ g =
    le_from_IsGcd a b g (suc n) h some (dvd_of_mod-eq-zero (suc n) (eqb-true (a % suc n) 0 both.0))
    (dvd_of_mod-eq-zero (suc n) (eqb-true (b % suc n) 0 both.1)) in
    omega arith)
    (λ e. elim (cases_eq g (suc n)) [
      | inl same ↦
          let P : ℕ → Type 0 = λ x. (x ∣ a) × (x ∣ b) in
          let divides = subst P same (h.0, h.1) in
          absurd (both_ways (in_a && in_b) e
          (and_from in_a in_b (eq-eqb (a % suc n) 0 (mod-eq-zero_of_dvd (suc n) divides.0))
          (eq-eqb (b % suc n) 0 (mod-eq-zero_of_dvd (suc n) divides.1))))
      | inr other ↦ search_is n a b g h some (omega arith)
    ])

-- so from the second number down it is what any way to find one finds
pub greatest_is : (a b g : ℕ) → 0 < b → IsGcd a b g → greatest_from b a b ≡ g
greatest_is a b g some h = search_is b a b g h (pos_of_dvd_of_pos h.1 some) (le_of_dvd some h.1)

-- and there is one
greatest_is_gcd : (a b : ℕ) → 0 < b → IsGcd a b (greatest_from b a b)
greatest_is_gcd a b some =
    let g = gcd_below (b + 1) a b (omega arith) in
    let P : ℕ → Type 0 = λ x. IsGcd a b x in
    subst P (sym (greatest_is a b g.0 some g.1)) g.1

-- a quotient in lowest terms is a fraction
natural_quotient : (a b : ℕ) → 0 < b → (f : Frac) × (ratio_of f ≡ lowest_terms a b) × IsFraction f (pos a) (pos b)
unfolding lowest_terms
natural_quotient a b some =
    let g = greatest_from b a b in
    let h = greatest_is_gcd a b some in
    let f : Frac = record {
      num = pos (a / g);
      den = pos (b / g);
      above = some_left b g some h.1;
      lowest = reduced a b g some h;
    } in
    (f, refl, same_value a b g h)

-- also that of integers that are not below 0
pub quotient : (T D : ℤ) → pos 0 ≤ℤ T → pos 0 <ℤ D →
    (f : Frac) × (ratio_of f ≡ lowest_terms (unsigned_abs T) (unsigned_abs D)) × IsFraction f T D
quotient (pos a) (pos b) t d = natural_quotient a b (omega (arith, ints))
quotient (pos a) (negsuc b) t d = absurd (omega (arith, ints))
quotient (negsuc a) D t d = absurd (omega (arith, ints))
