-- The order of fractions: it is total and transitive, and fractions in lowest terms that are equal in it are the same.
use mathlib.Core.HLevel.{is_prop→PathP}
use Rattle.std.proofs.Common.{◌≡◌, ℕ, ◌*◌, ℤ, pos, ◌*ℤ◌, ◌≤ℤ◌, ◌<ℤ◌, unsigned_abs, arith, ap, sym, ◌∙◌, refl, inl, inr, ◌⊎◌, subst, Less, Equal, Greater}
use Rattle.std.specs.declared.cmp.Ordering.{Ordering}
use Rattle.std.specs.Ordering.{int_cmp, MatchOrdering}
use Rattle.std.specs.Cmp.{IsTotalOrder}
use Rattle.std.specs.Int.{IsGcd, ◌∣◌}
use Rattle.std.proofs.Math.Dec.{T_prop}
use Rattle.std.proofs.lemmas.Cmp.{int_ranked, by_ranked, int_cmp_total}
use Rattle.std.proofs.lemmas.Int.{ints, unsigned_abs-mul, by_lt_z}
use Rattle.std.proofs.lemmas.Nat.Gcd.{dvd_antisymm}
use Rattle.std.proofs.Math.Nat.{dvd-mul_left}
use Rattle.segment_hit.proofs.Integers.{moved}
use Rattle.segment_hit.proofs.Signs.{size_is, orderly, grows, shrinks, cancel_right}
use Rattle.segment_hit.proofs.LowestTerms.{divides_other}
use Rattle.segment_hit.specs.FractionOrder.{frac_cmp, IsAtMost, IsBelow}
use Rattle.segment_hit.specs.declared.fraction.Frac.{Frac}

-- what is at most a fraction is at most all that it is at most
pub at_most_trans : (a b c : Frac) → IsAtMost a b → IsAtMost b c → IsAtMost a c
at_most_trans a b c h k =
    let a' : pos 0 ≤ℤ a.den = omega (arith, ints, a.above) in
    let c' : pos 0 ≤ℤ c.den = omega (arith, ints, c.above) in
    let x = grows (a.num *ℤ b.den) (b.num *ℤ a.den) c.den c' h in
    let y = grows (b.num *ℤ c.den) (c.num *ℤ b.den) a.den a' k in
    let z : ((a.num *ℤ c.den) *ℤ b.den) ≤ℤ ((c.num *ℤ a.den) *ℤ b.den) =
    omega (arith, orderly, x, y, moved a.num b.den c.den, moved b.num a.den c.den, moved c.num b.den a.den) in
    shrinks _ _ b.den b.above z

-- of two fractions one is at most the other
pub at_most_total : (a b : Frac) → IsAtMost a b ⊎ IsAtMost b a
at_most_total a b =
    by_lt_z (a.num *ℤ b.den) (b.num *ℤ a.den) (λ h. inl (weak (a.num *ℤ b.den) (b.num *ℤ a.den) h)) (λ h. inr h)
  where
    weak : (x y : ℤ) → x <ℤ y → x ≤ℤ y
    weak x y h = omega (arith, ints)

-- one fraction is below another exactly where that is not at most it
pub below_or_back : (a b : Frac) → IsBelow a b ⊎ IsAtMost b a
below_or_back a b = by_lt_z (a.num *ℤ b.den) (b.num *ℤ a.den) (λ h. inl h) (λ h. inr h)

-- no fraction is below one that it is at least
pub not_below : (a b : Frac) → IsBelow a b → IsAtMost b a → ⊥
not_below a b h k = apart (a.num *ℤ b.den) (b.num *ℤ a.den) h k
  where
    apart : (x y : ℤ) → x <ℤ y → y ≤ℤ x → ⊥
    apart x y h k = omega (arith, ints)

-- what is below is at most
pub below_at_most : (a b : Frac) → IsBelow a b → IsAtMost a b
below_at_most a b h = weak (a.num *ℤ b.den) (b.num *ℤ a.den) h
  where
    weak : (x y : ℤ) → x <ℤ y → x ≤ℤ y
    weak x y h = omega (arith, ints)

-- below is transitive
pub below_trans : (a b c : Frac) → IsBelow a b → IsBelow b c → IsBelow a c
below_trans a b c h k = elim (below_or_back a c) [
  | inl l ↦ l
  | inr g ↦ absurd (not_below b c k (at_most_trans c a b g (below_at_most a b h)))
]

-- fractions in lowest terms of equal value have equal denominators
same_den : (a b : Frac) → a.num *ℤ b.den ≡ b.num *ℤ a.den → a.den ≡ b.den
same_den a b e =
    let sizes : unsigned_abs a.num * unsigned_abs b.den ≡ unsigned_abs b.num * unsigned_abs a.den =
    sym (unsigned_abs-mul a.num b.den) ∙ ap unsigned_abs e ∙ unsigned_abs-mul b.num a.den in
    let P : ℕ → Type 0 = λ x. unsigned_abs a.den ∣ x in
    let Q : ℕ → Type 0 = λ x. unsigned_abs b.den ∣ x in
    let first : unsigned_abs a.den ∣ unsigned_abs b.den =
    divides_other (unsigned_abs a.num) (unsigned_abs a.den) (unsigned_abs b.den) a.lowest
    (subst P (sym sizes) (dvd-mul_left (unsigned_abs a.den) (unsigned_abs b.num))) in
    let second : unsigned_abs b.den ∣ unsigned_abs a.den =
    divides_other (unsigned_abs b.num) (unsigned_abs b.den) (unsigned_abs a.den) b.lowest
    (subst Q sizes (dvd-mul_left (unsigned_abs b.den) (unsigned_abs a.num))) in
    sym (size_is a.den (omega (arith, ints, a.above))) ∙ ap pos (dvd_antisymm first second)
    ∙ size_is b.den (omega (arith, ints, b.above))

-- and equal numerators
same_num : (a b : Frac) → a.num *ℤ b.den ≡ b.num *ℤ a.den → a.num ≡ b.num
same_num a b e =
    cancel_right a.num b.num b.den b.above (e ∙ ap (λ (x : ℤ). b.num *ℤ x) (same_den a b e))

-- fractions of equal value are the same
pub same_fields : (a b : Frac) → a.num *ℤ b.den ≡ b.num *ℤ a.den → a ≡ b
same_fields a b e =
    let n = same_num a b e in
    let d = same_den a b e in
    λ i. record {
      num = n i;
      den = d i;
      above = is_prop→PathP (λ j. pos 0 <ℤ d j) (λ j. hlevel T_prop) a.above b.above i;
      lowest = is_prop→PathP (λ j. IsGcd (unsigned_abs (n j)) (unsigned_abs (d j)) 1) (λ j. hlevel) a.lowest b.lowest i;
    }

-- fractions that are at most each other are the same
pub at_most_antisym : (a b : Frac) → IsAtMost a b → IsAtMost b a → a ≡ b
at_most_antisym a b h k = same_fields a b (both (a.num *ℤ b.den) (b.num *ℤ a.den) h k)
  where
    both : (x y : ℤ) → x ≤ℤ y → y ≤ℤ x → x ≡ y
    both x y h k = omega (arith, ints)

-- fractions that compare as equal are the same
pub equal_is_same : (a b : Frac) → frac_cmp a b ≡ Equal → a ≡ b
equal_is_same a b e = same_fields a b (int_ranked (a.num *ℤ b.den) (b.num *ℤ a.den) Equal (sym e))

-- `Less` is below
pub less_is_below : (a b : Frac) → frac_cmp a b ≡ Less → IsBelow a b
less_is_below a b e = int_ranked (a.num *ℤ b.den) (b.num *ℤ a.den) Less (sym e)

-- and what is below compares as `Less`
pub below_is_less : (a b : Frac) → IsBelow a b → frac_cmp a b ≡ Less
below_is_less a b h = less (a.num *ℤ b.den) (b.num *ℤ a.den) h
  where
    less : (x y : ℤ) → x <ℤ y → int_cmp x y ≡ Less
    less x y h =
        by_ranked (x <ℤ y) (x ≡ y) (y <ℤ x) (int_cmp x y) (int_ranked x y (int_cmp x y) refl)
        (λ e l. e) (λ e s. absurd (omega (arith, ints))) (λ e g. absurd (omega (arith, ints)))

-- the order of fractions is a total order
pub frac_cmp_total : IsTotalOrder frac_cmp
frac_cmp_total = record {
  antisymm = λ a b. int_cmp_total.antisymm (a.num *ℤ b.den) (b.num *ℤ a.den);
  trans = λ a b c h k. below_is_less a c (below_trans a b c (less_is_below a b h) (less_is_below b c k));
  congr = λ a b c e. ap (λ (x : Frac). frac_cmp x c) (equal_is_same a b e);
}

-- what an answer of `cmp` says of two fractions
pub frac_ranked : (a b : Frac) (o : Ordering) → o ≡ frac_cmp a b → MatchOrdering o (IsBelow a b) (a ≡ b) (IsBelow b a)
frac_ranked a b Less e = less_is_below a b (sym e)
frac_ranked a b Equal e = equal_is_same a b (sym e)
frac_ranked a b Greater e = int_ranked (a.num *ℤ b.den) (b.num *ℤ a.den) Greater e
