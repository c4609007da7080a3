-- The nearest grid step, with its sign apart.
use Rattle.std.proofs.Common.{arith, suc, zero, ◌≡◌, ◌≤◌, ◌<◌, ◌*◌, ◌/◌, ◌^◌, ◌+◌, ◌-◌, cond, min, nat_lt, ℕ, Bool, true, false, refl, sym, ap, ◌∙◌, ℤ, pos, negsuc, neg_ℤ, ◌+ℤ◌, ◌*ℤ◌, ◌≤ℤ◌, ◌<ℤ◌}
use Rattle.std.specs.Int.{int_div_euclid}
use Rattle.std.proofs.Math.Nat.{div-eq_of_lt, add-mul-div_right, div-mul-le_self, lt-div-mul-add}
use Rattle.std.proofs.lemmas.Int.{ints, clamps}
use borrow.Author.Tests.{ltb-true, ltb-false}
use Rattle.decimals.specs.Fractions.{floor, nearest_step, scaled, with_sign}
use Rattle.decimals.specs.Values.{brought_in}
use Rattle.decimals.specs.Rounding.{rounded}
use Rattle.decimals.specs.declared.limits.TheConstants.{GREATEST}
use Rattle.decimals.proofs.Powers.{power_some}

-- a quotient by twice a number above 0 grows by one where what is divided grows by the divisor
one_more_down : (x d : ℕ) → 0 < d → (x + 2 * d) / (2 * d) ≡ suc (x / (2 * d))
one_more_down x d some =
    let once : x + 2 * d ≡ x + 1 * (2 * d) = omega arith in
    ap (λ k. k / (2 * d)) once ∙ add-mul-div_right x 1 {z = 2 * d} (omega arith)
    ∙ (let e : x / (2 * d) + 1 ≡ suc (x / (2 * d)) = omega arith in e)

-- 1/2 more than a number below 0, rounded down, by whether that number is below -1/2
below_by : (m d : ℕ) (k : Bool) → nat_lt d (suc m) ≡ k → 0 < d
    → int_div_euclid (cond k (negsuc (suc m - suc d)) (pos (d - suc m))) (pos (2 * d))
    ≡ neg_ℤ (pos ((suc m + d - 1) / (2 * d)))
below_by m d true e some =
    let less : d < suc m = ltb-true d (suc m) e in
    let whole : suc m + d - 1 ≡ (suc m - suc d) + 2 * d = omega (arith, less) in
    sym (ap (λ k. neg_ℤ (pos (k / (2 * d)))) whole ∙ ap (λ k. neg_ℤ (pos k)) (one_more_down (suc m - suc d) d some))
below_by m d false e some =
    let more : suc m ≤ d = ltb-false d (suc m) e in
    let here : (d - suc m) / (2 * d) ≡ 0 = div-eq_of_lt {n = d - suc m} {m = 2 * d} (omega (arith, some)) in
    let there : (suc m + d - 1) / (2 * d) ≡ 0 = div-eq_of_lt {n = suc m + d - 1} {m = 2 * d} (omega (arith, more)) in
    ap pos here ∙ sym (ap (λ k. neg_ℤ (pos k)) there)

-- 1/2 more than a number that is not above 0, rounded down
floor_below : (a d : ℕ) → 0 < d → floor (neg_ℤ (pos a) +ℤ pos d) (2 * d) ≡ neg_ℤ (pos ((a + d - 1) / (2 * d)))
floor_below zero d some =
    let here : (0 + d) / (2 * d) ≡ 0 = div-eq_of_lt {n = 0 + d} {m = 2 * d} (omega (arith, some)) in
    let there : (0 + d - 1) / (2 * d) ≡ 0 = div-eq_of_lt {n = 0 + d - 1} {m = 2 * d} (omega (arith, some)) in
    ap pos here ∙ sym (ap (λ k. neg_ℤ (pos k)) there)
floor_below (suc m) d some = below_by m d (nat_lt d (suc m)) refl some

-- a natural number times the negative of another is the negative of their product
times_below : (k v : ℕ) → pos k *ℤ neg_ℤ (pos v) ≡ neg_ℤ (pos (k * v))
times_below k zero = let e : k * 0 ≡ 0 = omega arith in ap pos e ∙ sym (ap (λ n. neg_ℤ (pos n)) e)
times_below k (suc v) = refl

-- the nearest step of a fraction with its sign
pub nearest_rounds : (minus : Bool) (unit v d : ℕ) → 0 < d
    → floor (pos (2 * unit) *ℤ with_sign minus v +ℤ pos d) (2 * d) ≡ with_sign minus (rounded minus (v * unit) d)
nearest_rounds false unit v d some =
    let e : 2 * unit * v + d ≡ 2 * (v * unit) + d = grind arith in
    ap (λ k. pos (k / (2 * d))) e
nearest_rounds true unit v d some =
    let e : 2 * unit * v ≡ 2 * (v * unit) = grind arith in
    ap (λ k. floor (k +ℤ pos d) (2 * d)) (times_below (2 * unit) v)
    ∙ floor_below (2 * unit * v) d some
    ∙ ap (λ k. neg_ℤ (pos ((k + d - 1) / (2 * d)))) e

-- a value that is brought in, with its sign
pub brought_in_signed : (minus : Bool) (n : ℕ) → brought_in (with_sign minus n) ≡ with_sign minus (min n GREATEST)
brought_in_signed false n = omega (arith, ints, clamps)
brought_in_signed true n = omega (arith, ints, clamps)

-- a grid value, with its sign apart
pub value_is : (minus : Bool) (unit value places raised lowered : ℕ)
    → brought_in (nearest_step unit (scaled minus value places raised lowered))
    ≡ with_sign minus (min (rounded minus (value * 10 ^ raised * unit) (10 ^ (places + lowered))) GREATEST)
value_is minus unit value places raised lowered =
    ap brought_in
    (nearest_rounds minus unit (value * 10 ^ raised) (10 ^ (places + lowered)) (power_some (places + lowered)))
    ∙ brought_in_signed minus (rounded minus (value * 10 ^ raised * unit) (10 ^ (places + lowered)))

-- a natural number's bounds by two multiples next to each other hold over the integers too
floor_law_above : (a b q : ℕ) → q * b ≤ a → a < q * b + b
    → ((pos b *ℤ pos q) ≤ℤ pos a) × (pos a <ℤ (pos b *ℤ (pos q +ℤ pos 1)))
floor_law_above a b q low high = (grind (arith, ints, low), grind (arith, ints, high))

-- and, turned about zero, they are bounds for the negative of the number one greater
floor_law_below : (a b q : ℕ) → q * b ≤ a → a < q * b + b → ((pos b *ℤ negsuc q) ≤ℤ negsuc a)
    × (negsuc a <ℤ (pos b *ℤ (negsuc q +ℤ pos 1)))
floor_law_below a b q low high = (grind (arith, ints, high), grind (arith, ints, low))

-- what the definitions round down to is the floor
pub floor_is : (a : ℤ) (b : ℕ) → 0 < b → ((pos b *ℤ floor a b) ≤ℤ a) × (a <ℤ (pos b *ℤ (floor a b +ℤ pos 1)))
floor_is (pos a) b some = floor_law_above a b (a / b) (div-mul-le_self a b) (lt-div-mul-add {a = a} {b = b} some)
floor_is (negsuc a) b some = floor_law_below a b (a / b) (div-mul-le_self a b) (lt-div-mul-add {a = a} {b = b} some)
