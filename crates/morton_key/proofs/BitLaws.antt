use Rattle.std.proofs.Math.Nat.{pow-suc, div-div-eq-div-mul}
use Rattle.std.proofs.Common.{◌≡◌, ◌≢◌, ℕ, suc, zero, ◌+◌, ◌-◌, ◌*◌, ◌/◌, ◌%◌, ◌^◌, ◌<◌, ◌≤◌, refl, sym, ap, ◌∙◌, arith, inl, inr}
use Rattle.std.specs.Prelude.{◌==◌, bit_xor}
use Rattle.std.specs.Int.{bit_at}
use Rattle.std.specs.Int.Count.{count_leading_zeros, leading_unique}
use Rattle.std.specs.Int.Bits.{xor_self, xor_assoc, xor_zero_l, xor_zero_r}
use Rattle.std.proofs.lemmas.Nat.{div-add-mod', row_fits, le-div, xor_shr, pow_pos, shr-shr}
use Rattle.std.proofs.lemmas.Nat.Bits.{bit_at-lt, bit_at_above, bit_at_xor}
use Rattle.std.proofs.lemmas.Bool.{cond_both, eqb-true, eqb-false, cases_lt, cases_eq, eq-eqb, ne_eqb, cond-true, cond-false}
use Rattle.morton_key.specs.Bits.{prefix, differing}

-- a number without its last k bits, and with one more of them
pub half : (x k : ℕ) → x / 2 ^ k / 2 ≡ x / 2 ^ suc k
half x k = rw pow-suc (div-div-eq-div-mul x (2 ^ k) 2)

-- a number without its last k bits is one without k + 1, and bit k behind it
pub shift_step : (x k : ℕ) → x / 2 ^ k ≡ x / 2 ^ suc k * 2 + bit_at x k
shift_step x k = omega (arith, half x k)

-- above `differing` nothing differs
pub same_above : (w x y : ℕ) → x / 2 ^ w ≡ y / 2 ^ w → x / 2 ^ differing w x y ≡ y / 2 ^ differing w x y
unfolding differing
same_above zero x y h = h
same_above (suc k) x y h =
    cond_both (bit_at x k == bit_at y k) (differing k x y) (suc k) (λ d. x / 2 ^ d ≡ y / 2 ^ d)
    (λ e. same_above k x y (omega (arith, eqb-true _ _ e, h, shift_step x k, shift_step y k))) (λ e. h)

-- no difference lies above the width that is looked at
pub differing_le : (w x y : ℕ) → differing w x y ≤ w
unfolding differing
differing_le zero x y = omega arith
differing_le (suc k) x y = cond_both (bit_at x k == bit_at y k) (differing k x y) (suc k) (λ d. d ≤ suc k)
    (λ e. omega (arith, differing_le k x y)) (λ e. omega arith)

-- and at its top something does
pub differs_at : (w x y k : ℕ) → differing w x y ≡ suc k → bit_at x k ≢ bit_at y k
unfolding differing
differs_at zero x y k = λ h. absurd (omega arith)
differs_at (suc j) x y k =
    cond_both (bit_at x j == bit_at y j) (differing j x y) (suc j) (λ d. d ≡ suc k → bit_at x k ≢ bit_at y k)
    (λ e. differs_at j x y k)
    (λ e h same. eqb-false _ _ e (let eq : j ≡ k = omega arith in rw eq same))

-- x / 2 ^ m and y / 2 ^ m are equal exactly from `differing` on
pub same_from : (x y d m : ℕ) → d ≤ m → x / 2 ^ d ≡ y / 2 ^ d → x / 2 ^ m ≡ y / 2 ^ m
same_from x y d m le h = let e : d + (m - d) ≡ m = omega arith in
    rw (← e) (rw (← shr-shr x d (m - d), ← shr-shr y d (m - d)) (ap (λ z. z / 2 ^ (m - d)) h))

-- numbers that are equal without their last m bits differ in m bits at most
pub differing_least : (w x y m : ℕ) → x / 2 ^ m ≡ y / 2 ^ m → differing w x y ≤ m
differing_least w x y m h = elim (cases_lt m (differing w x y)) [
  | inr le ↦ le
  | inl lt ↦ let k : ℕ = differing w x y - 1 in
      let is : differing w x y ≡ suc k = omega arith in
      absurd (differs_at w x y k is (let s = same_from x y m k (omega arith) h in ap (λ z. z % 2) s))
]

-- numbers whose exclusive or is 0 are equal
pub xor_zero : (x y : ℕ) → bit_xor x y ≡ 0 → x ≡ y
xor_zero x y h = sym (xor_zero_r x)
    ∙ (ap (λ z. bit_xor x z) (sym (xor_self y)) ∙ (sym (xor_assoc x y y) ∙ (ap (λ z. bit_xor z y) h ∙ xor_zero_l y)))

-- a quotient does not fall where the number does not
pub div_mono : (x y n : ℕ) → 0 < n → x ≤ y → x / n ≤ y / n
div_mono x y n p h = le-div (x / n) y n p (omega (arith, div-add-mod' x n))

-- nothing is left of a number of k bits without its last k
pub div_small : (x k : ℕ) → x < 2 ^ k → x / 2 ^ k ≡ 0
div_small x k h = grind (arith, div-add-mod' x (2 ^ k), row_fits)

-- a number of which nothing is left without its last k bits has k bits
pub small_div : (x k : ℕ) → x / 2 ^ k ≡ 0 → x < 2 ^ k
small_div x k h = omega (arith, div-add-mod' x (2 ^ k), ap (λ z. z * 2 ^ k) h, pow_pos k)

-- numbers that are equal without their last m bits have an exclusive or of m bits
pub xor_below : (x y m : ℕ) → x / 2 ^ m ≡ y / 2 ^ m → bit_xor x y < 2 ^ m
xor_below x y m h =
    small_div (bit_xor x y) m (xor_shr x y m ∙ (ap (λ z. bit_xor z (y / 2 ^ m)) h ∙ xor_self (y / 2 ^ m)))

-- numbers that differ in bit k have an exclusive or of 2 ^ k at least
pub below_xor : (x y k : ℕ) → bit_at x k ≢ bit_at y k → 2 ^ k ≤ bit_xor x y
below_xor x y k h = elim (cases_lt (bit_xor x y) (2 ^ k)) [
  | inr le ↦ le
  | inl lt ↦ absurd (h
      (omega (arith, bit_at_above (bit_xor x y) k k lt (omega arith), bit_at_xor x y k, bit_at-lt x k, bit_at-lt y k)))
]

-- what two numbers share and what differs in them make up their width
pub prefix_differing : (w x y : ℕ) → prefix w x y + differing w x y ≡ w
unfolding prefix differing
prefix_differing zero x y = refl
prefix_differing (suc k) x y = elim (cases_eq (bit_at x k) (bit_at y k)) [
  | inl e ↦
      let same = eq-eqb (bit_at x k) (bit_at y k) e in
      omega (
        arith,
        cond-true (bit_at x k == bit_at y k) (suc (prefix k x y)) 0 same,
        cond-true (bit_at x k == bit_at y k) (differing k x y) (suc k) same,
        prefix_differing k x y,
      )
  | inr ne ↦
      let other = ne_eqb (bit_at x k) (bit_at y k) ne in
      omega (
        arith,
        cond-false (bit_at x k == bit_at y k) (suc (prefix k x y)) 0 other,
        cond-false (bit_at x k == bit_at y k) (differing k x y) (suc k) other,
      )
]

-- the common prefix is what stands before the highest bit of the exclusive or
pub prefix_xor : (w x y : ℕ) → x < 2 ^ w → y < 2 ^ w → count_leading_zeros w (bit_xor x y) ≡ prefix w x y
prefix_xor w x y p q =
    let d : ℕ = differing w x y in
    let above = same_above w x y (div_small x w p ∙ sym (div_small y w q)) in
    let low : bit_xor x y < 2 ^ d = xor_below x y d above in
    let le : d ≤ w = differing_le w x y in
    let high : 2 ^ d ≤ 2 * bit_xor x y + 1 = top d refl in
    let e : w - d ≡ count_leading_zeros w (bit_xor x y) = leading_unique w (bit_xor x y) (w - d) d (omega arith) low
    high in
    omega (arith, prefix_differing w x y)
  where
    top : (d : ℕ) → differing w x y ≡ d → 2 ^ d ≤ 2 * bit_xor x y + 1
    top zero e = omega arith
    top (suc k) e = omega (arith, pow-suc 2 k, below_xor x y k (differs_at w x y k e))
