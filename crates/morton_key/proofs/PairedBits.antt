use Rattle.std.proofs.Common.{◌≡◌, ◌≢◌, ℕ, suc, zero, ◌+◌, ◌-◌, ◌*◌, ◌/◌, ◌%◌, ◌^◌, ◌<◌, ◌≤◌, refl, sym, ap, ◌∙◌, arith, inl, inr, subst}
use Rattle.std.specs.Prelude.{◌==◌, if◌then◌else◌}
use Rattle.std.specs.Int.{bit_at}
use Rattle.std.specs.Int.Count.{count_leading_zeros, leading_unique}
use Rattle.std.proofs.lemmas.Nat.{leading_length, shr_high, shr-shr}
use Rattle.std.proofs.lemmas.Nat.Bits.{bit_at_cat_low, bit_at_cat_high}
use Rattle.std.proofs.lemmas.Bool.{cases_eq, cases_lt, eq-eqb, cond-true}
use Rattle.morton_key.specs.Bits.{differing}
use Rattle.morton_key.proofs.BitLaws.{same_above, differs_at, differing_least, differing_le, div_small, same_from}

-- what differs is fixed by the bits below the width
differing_bits : (k x y v w : ℕ) → ((j : ℕ) → j < k → bit_at x j ≡ bit_at v j) →
    ((j : ℕ) → j < k → bit_at y j ≡ bit_at w j) → differing k x y ≡ differing k v w
unfolding differing
differing_bits zero x y v w f g = refl
differing_bits (suc k) x y v w f g =
    rw (f k (omega arith))
    (rw (g k (omega arith))
    (ap (λ z. if bit_at v k == bit_at w k then z else suc k)
    (differing_bits k x y v w (λ j h. f j (omega arith)) (λ j h. g j (omega arith)))))

-- an equal bit on top adds nothing
step : (m x y : ℕ) → bit_at x m ≡ bit_at y m → differing (suc m) x y ≡ differing m x y
unfolding differing
step m x y e = cond-true (bit_at x m == bit_at y m) _ _ (eq-eqb _ _ e)

-- and by those alone that are not all equal above
differing_high : (m k x y : ℕ) → k ≤ m → ((j : ℕ) → k ≤ j → bit_at x j ≡ bit_at y j) →
    differing m x y ≡ differing k x y
differing_high zero k x y le f = let e : k ≡ 0 = omega arith in rw e refl
differing_high (suc m) k x y le f = elim (cases_eq k (suc m)) [
  | inl e ↦ rw e refl
  | inr ne ↦ step m x y (f m (omega arith)) ∙ differing_high m k x y (omega arith) f
]

-- the highest place where two numbers differ is the only one such that they are equal above it
differing_unique : (w x y k : ℕ) → x / 2 ^ suc k ≡ y / 2 ^ suc k → bit_at x k ≢ bit_at y k → k < w →
    x / 2 ^ w ≡ y / 2 ^ w → differing w x y ≡ suc k
differing_unique w x y k same differ lt all = elim (cases_lt k (differing w x y)) [
  | inl more ↦ omega (arith, differing_least w x y (suc k) same)
  | inr less ↦ absurd (differ (ap (λ z. z % 2) (same_from x y (differing w x y) k less (same_above w x y all))))
]

-- equal high parts: what differs is in the low parts
pub differing_low_part : (w k c i j : ℕ) → k ≤ w → i < 2 ^ k → j < 2 ^ k →
    differing w (c * 2 ^ k + i) (c * 2 ^ k + j) ≡ differing k i j
differing_low_part w k c i j le p q =
    differing_high w k (c * 2 ^ k + i) (c * 2 ^ k + j) le (λ m h. bit_at_cat_high c k i m p h
    ∙ sym (bit_at_cat_high c k j m q h))
    ∙ differing_bits k (c * 2 ^ k + i) (c * 2 ^ k + j) i j (λ m h. bit_at_cat_low c k i m h)
    (λ m h. bit_at_cat_low c k j m h)

-- the low part is gone once that many bits are
pub drop_low : (c k i m : ℕ) → i < 2 ^ k → (c * 2 ^ k + i) / 2 ^ (k + m) ≡ c / 2 ^ m
drop_low c k i m p = sym (shr-shr (c * 2 ^ k + i) k m) ∙ ap (λ z. z / 2 ^ m) (shr_high c k i p)

-- other high parts: what differs is in these
pub differing_high_part : (w k c d i j : ℕ) → c ≢ d → c < 2 ^ w → d < 2 ^ w → i < 2 ^ k → j < 2 ^ k →
    differing (k + w) (c * 2 ^ k + i) (d * 2 ^ k + j) ≡ k + differing w c d
differing_high_part w k c d i j ne cw dw p q = elim (cases_eq (differing w c d) 0) [
  | inl z ↦ absurd (ne (omega (arith, subst (λ e. c / 2 ^ e ≡ d / 2 ^ e) z (same_above w c d whole))))
  | inr nz ↦
      let m : ℕ = differing w c d - 1 in
      let e : differing w c d ≡ suc m = omega arith in
      let same : c / 2 ^ suc m ≡ d / 2 ^ suc m = subst (λ e. c / 2 ^ e ≡ d / 2 ^ e) e (same_above w c d whole) in
      let e1 : k + suc m ≡ suc (k + m) = omega arith in
      let e2 : k + m - k ≡ m = omega arith in
      let bit_c : bit_at (c * 2 ^ k + i) (k + m) ≡ bit_at c m = bit_at_cat_high c k i (k + m) p (omega arith)
      ∙ ap (bit_at c) e2 in
      let bit_d : bit_at (d * 2 ^ k + j) (k + m) ≡ bit_at d m = bit_at_cat_high d k j (k + m) q (omega arith)
      ∙ ap (bit_at d) e2 in
      differing_unique (k + w) (c * 2 ^ k + i) (d * 2 ^ k + j) (k + m)
      (subst (λ z. (c * 2 ^ k + i) / 2 ^ z ≡ (d * 2 ^ k + j) / 2 ^ z) e1 (drop_low c k i (suc m) p
      ∙ (same ∙ sym (drop_low d k j (suc m) q))))
      (λ h. differs_at w c d m e (sym bit_c ∙ (h ∙ bit_d)))
      (omega (arith, differing_le w c d))
      (drop_low c k i w p ∙ (whole ∙ sym (drop_low d k j w q)))
      ∙ omega arith
]
  where
    whole : c / 2 ^ w ≡ d / 2 ^ w
    whole = div_small c w cw ∙ sym (div_small d w dw)

-- different numbers differ somewhere
pub differing_pos : (w c d : ℕ) → c < 2 ^ w → d < 2 ^ w → c ≢ d → 0 < differing w c d
differing_pos w c d p q ne = elim (cases_eq (differing w c d) 0) [
  | inr nz ↦ omega arith
  | inl z ↦ absurd (ne
      (omega (
        arith,
        subst (λ e. c / 2 ^ e ≡ d / 2 ^ e) z (same_above w c d (div_small c w p ∙ sym (div_small d w q))),
      )))
]

-- the leading zeros of a narrow number in a wide word
pub leading_narrow : (m k v : ℕ) → v < 2 ^ k → count_leading_zeros (m + k) v ≡ m + count_leading_zeros k v
leading_narrow m k v h = let (j, e, low, high) = leading_length k v h in
    sym (leading_unique (m + k) v (m + count_leading_zeros k v) j (omega arith) low high)
