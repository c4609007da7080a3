-- Digits are too many exactly where the number that they write is too large.
use Rattle.std.proofs.Common.{arith, ◌≡◌, ◌≤◌, ◌<◌, ◌*◌, ◌^◌, ◌+◌, ◌-◌, ◌==◌, ◌++◌, ◌∷◌, [], List, length, cond, nat_le, nat_lt, ℕ, Bool, true, false, refl, sym, ap, ◌∙◌, subst, ◌⊎◌, inl, inr, eq-eqb}
use Rattle.std.proofs.Math.Nat.{pow-le-pow_right, mul-le-mul_right}
use Rattle.std.proofs.lemmas.Bool.Decides.{nat_tests}
use Rattle.text_words.specs.Numbers.{is_digit, value_after, digits_of, past_sign, past_digits}
use Rattle.decimals.specs.declared.limits.TheConstants.{PAST_MOST_DIGITS}
use Rattle.decimals.specs.Decimals.{fraction_of, whole_part, fraction_part, mantissa_digits, significant, is_too_long}

-- each is a digit
abbrev pub AreDigits : List ℕ → Type 0
AreDigits [] = Unit {0}
AreDigits (b ∷ bs) = (48 ≤ b) × (b ≤ 57) × AreDigits bs

-- one digit more makes ten to the number of digits ten times as great
power_more : (b : ℕ) (bs : List ℕ) → 10 ^ length (b ∷ bs) ≡ 10 ^ length bs * 10
power_more b bs = grind arith

-- what is at least ten times n and more, in some steps, is at least n in steps ten times as great
lower_half : (n d t v : ℕ) → (n * 10 + d) * t ≤ v → n * (t * 10) ≤ v
lower_half n d t v p = grind arith

-- what is below the number next after n and a digit is below the next after n in steps ten times as great
upper_half : (n d t v : ℕ) → d ≤ 9 → v < (n * 10 + d + 1) * t → v < (n + 1) * (t * 10)
upper_half n d t v few p =
    let more : (n * 10 + d + 1) * t ≤ (n * 10 + 10) * t = mul-le-mul_right t (omega arith) in
    grind arith

-- a number of so many digits behind those of n
bounds : (n : ℕ) (bs : List ℕ) → AreDigits bs
    → (n * 10 ^ length bs ≤ value_after n bs) × (value_after n bs < (n + 1) * 10 ^ length bs)
bounds n [] p = (omega arith, omega arith)
bounds n (b ∷ bs) p =
    let q = bounds (n * 10 + (b - 48)) bs p.2 in
    let d : b - 48 ≤ 9 = omega (arith, p.1) in
    let low = lower_half n (b - 48) (10 ^ length bs) (value_after n (b ∷ bs)) q.0 in
    let high = upper_half n (b - 48) (10 ^ length bs) (value_after n (b ∷ bs)) d q.1 in
    let e = sym (power_more b bs) in (
      subst (λ k. n * k ≤ value_after n (b ∷ bs)) e low,
      subst (λ k. value_after n (b ∷ bs) < (n + 1) * k) e high,
    )

-- a number is at least 24 or at most 23
within : (k : ℕ) → (24 ≤ k) ⊎ (k ≤ 23)
within k = grind arith

-- an exponent is at least 24, and its power of ten at least 10^24, or at most 23, and its power at most 10^23
power_cases : (k : ℕ) → (24 ≤ k × 10 ^ 24 ≤ 10 ^ k) ⊎ (k ≤ 23 × 10 ^ k ≤ 10 ^ 23)
power_cases k = elim (within k) [
  | inl p ↦ inl (p, pow-le-pow_right {n = 10} (omega arith) {i = 24} {j = k} p)
  | inr p ↦ inr (p, pow-le-pow_right {n = 10} (omega arith) {i = k} {j = 23} p)
]

-- a number whose first digit is 1 to 9 is at least one step of that digit and below ten
first_digit : (d t v : ℕ) → 1 ≤ d → d ≤ 9 → d * t ≤ v → v < (d + 1) * t → (t ≤ v) × (v < 10 * t)
first_digit d t v some few p q =
    let low : 1 * t ≤ d * t = mul-le-mul_right t some in
    let high : (d + 1) * t ≤ 10 * t = mul-le-mul_right t (omega arith) in
    (omega arith, omega arith)

-- a number of n + 1 digits, of which the first is not '0'
long_first : (n v : ℕ) → 10 ^ n ≤ v → v < 10 * 10 ^ n → nat_lt 24 (n + 1) ≡ nat_le PAST_MOST_DIGITS v
long_first n v low high = elim (power_cases n) [
  | inl p ↦ (let more = p.0 in let big = p.1 in grind (arith, nat_tests))
  | inr p ↦ (let less = p.0 in let small = p.1 in grind (arith, nat_tests))
]

-- one digit more before digits that are too many exactly where their number is too large, by whether it is '0'
long_by : (b : ℕ) (bs : List ℕ) (k : Bool) → (b == 48) ≡ k → AreDigits (b ∷ bs)
    → is_too_long bs ≡ nat_le PAST_MOST_DIGITS (value_after 0 bs)
    → nat_lt 24 (length (cond k (significant bs) (b ∷ bs)))
    ≡ nat_le PAST_MOST_DIGITS (value_after (0 * 10 + (b - 48)) bs)
long_by b bs true e p later =
    let none : b ≡ 48 = grind (arith, e) in
    let nil : 0 ≡ 0 * 10 + (b - 48) = omega (arith, none) in
    later ∙ ap (λ d. nat_le PAST_MOST_DIGITS (value_after d bs)) nil
long_by b bs false e p later =
    let no : (b ≡ 48) → (true ≡ false) = λ f. sym (eq-eqb b 48 f) ∙ e in
    let some : b ≡ 48 → ⊥ = λ f. (let both : true ≡ false = no f in cc) in
    let d = 0 * 10 + (b - 48) in
    let above : 1 ≤ d = grind (arith, some, p.0) in
    let few : d ≤ 9 = omega (arith, p.1) in
    let q = bounds d bs p.2 in
    let r = first_digit d (10 ^ length bs) (value_after d bs) above few q.0 q.1 in
    let one : length (b ∷ bs) ≡ length bs + 1 = omega arith in
    ap (λ k. nat_lt 24 k) one ∙ long_first (length bs) (value_after d bs) r.0 r.1

-- too many significant digits are a number that is too large
pub too_long_is : (ds : List ℕ) → AreDigits ds → is_too_long ds ≡ nat_le PAST_MOST_DIGITS (value_after 0 ds)
too_long_is [] p = refl
too_long_is (b ∷ bs) p = long_by b bs (b == 48) refl p (too_long_is bs p.2)

-- the digits at the front of a text with one byte more are digits, by whether that byte is one
digits_by : (b : ℕ) (bs : List ℕ) (k : Bool) → is_digit b ≡ k → AreDigits (digits_of bs)
    → AreDigits (cond k (b ∷ digits_of bs) [])
digits_by b bs true e p = (grind (arith, nat_tests, e), grind (arith, nat_tests, e), p)
digits_by b bs false e p = tt {0}

-- the digits at the front of a text are digits
pub digits_are : (text : List ℕ) → AreDigits (digits_of text)
digits_are [] = tt {0}
digits_are (b ∷ bs) = digits_by b bs (is_digit b) refl (digits_are bs)

-- the digits at the front of a text are digits, whether they are taken or left out
fraction_by : (k : Bool) (bs : List ℕ) → AreDigits (cond k (digits_of bs) [])
fraction_by true bs = digits_are bs
fraction_by false bs = tt {0}

-- the digits behind a point at the front of a text are digits
fraction_are : (text : List ℕ) → AreDigits (fraction_of text)
fraction_are [] = tt {0}
fraction_are (b ∷ bs) = fraction_by (b == 46) bs

-- digits and then digits are digits
both_are : (xs ys : List ℕ) → AreDigits xs → AreDigits ys → AreDigits (xs ++ ys)
both_are [] ys p q = q
both_are (b ∷ bs) ys p q = (p.0, p.1, both_are bs ys p.2 q)

-- the digits of a word are digits
pub mantissa_are : (word : List ℕ) → AreDigits (mantissa_digits word)
mantissa_are word =
    both_are (whole_part word) (fraction_part word) (digits_are (past_sign word))
    (fraction_are (past_digits (past_sign word)))
