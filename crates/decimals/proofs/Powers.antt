-- Powers of ten against the limits.
use Rattle.std.proofs.Common.{arith, suc, zero, ◌≡◌, ◌≤◌, ◌<◌, ◌*◌, ◌^◌, ◌+◌, List, [], ◌∷◌, length, get_or, min, ℕ, refl, ap, ◌∙◌}
use Rattle.decimals.specs.declared.limits.TheConstants.{GREATEST, PAST_MOST_DIGITS, POWERS}
use Rattle.std.proofs.Math.Nat.{pow-le-pow_right, mul-le-mul_right, le_of_lt}

-- a power of ten is above 0
pub power_some : (t : ℕ) → 0 < 10 ^ t
power_some t = let p : 10 ^ 0 ≤ 10 ^ t = pow-le-pow_right {n = 10} (omega arith) {i = 0} {j = t} (omega arith) in
    omega arith

-- powers that fit 64 and 128 bits
pub power_few : (t : ℕ) → t ≤ 18 → 10 ^ t ≤ 1000000000000000000
power_few t few = pow-le-pow_right {n = 10} (omega arith) {i = t} {j = 18} few

-- a product of at most 34 tens is at most 10^34
pub power_most : (t : ℕ) → t ≤ 34 → 10 ^ t ≤ 10000000000000000000000000000000000
power_most t few = pow-le-pow_right {n = 10} (omega arith) {i = t} {j = 34} few

-- powers that are past every value
pub power_great : (t : ℕ) → 12 < t → 10000000000000 ≤ 10 ^ t
power_great t more = pow-le-pow_right {n = 10} (omega arith) {i = 13} {j = t} (omega arith)

-- a product of more than 34 tens is at least 10^35
pub power_past : (t : ℕ) → 34 < t → 100000000000000000000000000000000000 ≤ 10 ^ t
power_past t more = pow-le-pow_right {n = 10} (omega arith) {i = 35} {j = t} (omega arith)

-- some number of grid steps times a power that is past every value is so too
pub raised_past : (n t : ℕ) → 0 < n → 12 < t → GREATEST ≤ n * 10 ^ t
raised_past n t some more =
    let one : 1 * 10 ^ t ≤ n * 10 ^ t = mul-le-mul_right (10 ^ t) some in
    omega (arith, power_great t more, one)

-- digits and a unit of at most 32 bits fit 112 bits
pub units_small : (m unit : ℕ) → m < PAST_MOST_DIGITS → unit < 2 ^ 32
    → m * unit < 2 ^ 112
units_small m unit few narrow =
    let near : m * unit ≤ PAST_MOST_DIGITS * unit = mul-le-mul_right unit (le_of_lt few) in
    omega (arith, near, narrow)

-- the greatest value, where a power is past every value
pub greatest_past : (n t : ℕ) → (n ≡ 0 → ⊥) → 12 < t → GREATEST ≡ min (n * 10 ^ t) GREATEST
greatest_past zero t some more = absurd (some refl)
greatest_past (suc n) t some more =
    let p : GREATEST ≤ suc n * 10 ^ t = raised_past (suc n) t (omega arith) more in
    omega (arith, p)

-- the numbers are the powers of ten from this one on
abbrev ArePowers : ℕ → List ℕ → Type 0
ArePowers k [] = Unit {0}
ArePowers k (x ∷ xs) = (x ≡ 10 ^ k) × ArePowers (k + 1) xs

-- in a list of powers of ten, the exponent at a place is that of the first and the place together
power_among : (k i : ℕ) (xs : List ℕ) → ArePowers k xs → i < length xs → get_or xs i 0 ≡ 10 ^ (k + i)
power_among k i [] p less = absurd (omega arith)
power_among k zero (x ∷ xs) p less = p.0 ∙ ap (λ j. 10 ^ j) (let e : k ≡ k + 0 = omega arith in e)
power_among k (suc i) (x ∷ xs) p less =
    power_among (k + 1) i xs p.1 (omega arith) ∙ ap (λ j. 10 ^ j) (let e : (k + 1) + i ≡ k + suc i = omega arith in e)

-- the table holds the powers of ten from 10^0 on
table : ArePowers 0 POWERS
table = (
  refl,
  (
    refl,
    (
      refl,
      (
        refl,
        (
          refl,
          (
            refl,
            (
              refl,
              (refl, (refl, (refl, (refl, (refl, (refl, (refl, (refl, (refl, (refl, (refl, (refl, tt {0})))))))))))),
            ),
          ),
        ),
      ),
    ),
  ),
)

-- the table of powers
pub power_at : (i : ℕ) → i ≤ 18 → get_or POWERS i 0 ≡ 10 ^ i
power_at i few = power_among 0 i POWERS table (omega arith) ∙ ap (λ j. 10 ^ j) (let e : 0 + i ≡ i = omega arith in e)

-- what is known of a power from the table
pub ruleset small_powers = (power_some, power_few, power_at)
