-- The order of hits: by fraction, and then by number.
use Rattle.std.proofs.Common.{◌≡◌, ℕ, ◌≤◌, refl, sym, ◌∙◌, arith, inl, inr, subst, Bool, true, false, leb, Equal}
use Rattle.std.specs.Bool.{MatchBool}
use Rattle.std.proofs.lemmas.Bool.{leb-true, leb-false}
use Rattle.segment_hit.specs.declared.fraction.Frac.{Frac}
use Rattle.segment_hit.specs.FractionOrder.{frac_cmp, IsAtMost, IsBelow}
use Rattle.segment_hit.proofs.FractionLaws.{equal_is_same, below_trans, below_at_most, not_below, at_most_total, at_most_antisym, below_or_back}
use Rattle.traversal.specs.Nearing.{IsNoFarther}

-- a test that decides
decided : (b : Bool) (P Q : Type 0) → (b ≡ true → P) → (b ≡ false → Q) → MatchBool b P Q
decided true P Q f g = f refl
decided false P Q f g = g refl

-- of two hits at one fraction the numbers decide
pub by_number : (h k : ℕ × Frac) → Equal ≡ frac_cmp h.1 k.1 →
    MatchBool (leb h.0 k.0) (IsNoFarther h k) (IsNoFarther k h)
by_number h k e =
    let same : h.1 ≡ k.1 = equal_is_same h.1 k.1 (sym e) in
    decided (leb h.0 k.0) (IsNoFarther h k) (IsNoFarther k h)
    (λ t. inr (same, leb-true h.0 k.0 t))
    (λ t. inr (sym same, omega (arith, leb-false h.0 k.0 t)))

-- each fraction is at most itself
at_most_refl : (f : Frac) → IsAtMost f f
at_most_refl f = elim (at_most_total f f) [ inl h ↦ h | inr h ↦ h ]

-- no hit is farther than itself
pub no_farther_refl : (h : ℕ × Frac) → IsNoFarther h h
no_farther_refl h = inr (refl, omega arith)

-- and the order is transitive
pub no_farther_trans : (h k l : ℕ × Frac) → IsNoFarther h k → IsNoFarther k l → IsNoFarther h l
no_farther_trans h k l (inl x) (inl y) = inl (below_trans h.1 k.1 l.1 x y)
no_farther_trans h k l (inl x) (inr y) = inl (subst (λ f. IsBelow h.1 f) y.0 x)
no_farther_trans h k l (inr x) (inl y) = inl (subst (λ f. IsBelow f l.1) (sym x.0) y)
no_farther_trans h k l (inr x) (inr y) = inr (x.0 ∙ y.0, omega (arith, x.1, y.1))

-- a hit that is no farther is at most the other fraction
pub no_farther_at_most : (h k : ℕ × Frac) → IsNoFarther h k → IsAtMost h.1 k.1
no_farther_at_most h k (inl x) = below_at_most h.1 k.1 x
no_farther_at_most h k (inr x) = subst (λ f. IsAtMost h.1 f) x.0 (at_most_refl h.1)

-- and at one fraction it has no higher number
pub no_farther_number : (n m : ℕ) (f : Frac) → IsNoFarther (n, f) (m, f) → n ≤ m
no_farther_number n m f (inl x) = absurd (not_below f f x (at_most_refl f))
no_farther_number n m f (inr x) = x.1

-- a hit at a fraction that is at most another's, and of no higher number, is no farther
pub at_most_is_no_farther : (h k : ℕ × Frac) → IsAtMost h.1 k.1 → h.0 ≤ k.0 → IsNoFarther h k
at_most_is_no_farther h k e le = elim (below_or_back h.1 k.1) [
  | inl below ↦ inl below
  | inr back ↦ inr (at_most_antisym h.1 k.1 e back, le)
]
