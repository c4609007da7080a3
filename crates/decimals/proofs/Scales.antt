-- Powers of ten that a number and what it is divided by share.
use Rattle.std.proofs.Common.{arith, ◌≡◌, ◌≤◌, ◌<◌, ◌*◌, ◌/◌, ◌^◌, ◌+◌, ◌-◌, min, ℕ, Bool, true, false, sym, ap, ◌∙◌}
use Rattle.std.proofs.Math.Nat.{div-eq_of_lt, div-eq_of_lt-le, mul-div-mul_right, div-mul-le_self, lt-div-mul-add, mul-le-mul_right}
use Rattle.std.proofs.lemmas.Nat.{pow-add}
use Rattle.decimals.specs.Rounding.{rounded, size_of}
use Rattle.decimals.specs.declared.limits.TheConstants.{GREATEST}
use Rattle.decimals.proofs.Powers.{power_some, power_past}

-- over 1 nothing is rounded
pub rounded_one : (minus : Bool) (n : ℕ) → rounded minus n 1 ≡ n
rounded_one true n = omega arith
rounded_one false n = omega arith

-- less than half a step is no step
pub rounded_none : (minus : Bool) (n d : ℕ) → 2 * n < d → rounded minus n d ≡ 0
rounded_none true n d less = div-eq_of_lt {n = 2 * n + d - 1} {m = 2 * d} (omega (arith, less))
rounded_none false n d less = div-eq_of_lt {n = 2 * n + d} {m = 2 * d} (omega (arith, less))

-- a number below another stays below it when both are multiplied by a factor above 0
times_low : (q x c : ℕ) → 0 < c → q ≤ x - 1 → 0 < x → q * c ≤ x * c - 1
times_low q x c some less more =
    let p : q * c ≤ (x - 1) * c = mul-le-mul_right c less in
    let e : (x - 1) + 1 ≡ x = omega (arith, more) in
    let f : (x - 1) * c + c ≡ ((x - 1) + 1) * c = grind arith in
    let split : (x - 1) * c + c ≡ x * c = f ∙ ap (λ k. k * c) e in
    omega (arith, p, split, some)

-- the bounds by the quotient of a number less 1 stay where number and divisor are multiplied by a factor above 0
below_half : (q x y c : ℕ) → 0 < c → 0 < x → q * y ≤ x - 1 → x - 1 < q * y + y
    → (q * (y * c) ≤ x * c - 1) × (x * c - 1 < (q + 1) * (y * c))
below_half q x y c some more low high =
    let a : q * y * c ≤ x * c - 1 = times_low (q * y) x c some low more in
    let b : x * c ≤ (q * y + y) * c = mul-le-mul_right c (let e : x ≤ q * y + y = omega (arith, high) in e) in
    let e : q * (y * c) ≡ q * y * c = grind arith in
    let f : (q + 1) * (y * c) ≡ (q * y + y) * c = grind arith in
    let g : 0 < x * c = (let p : 1 * c ≤ x * c = mul-le-mul_right c more in omega (arith, p, some)) in
    (omega (arith, a, e), omega (arith, b, f, g))

-- a factor that both share
pub rounded_shared : (minus : Bool) (n d c : ℕ) → 0 < d → 0 < c → rounded minus (n * c) (d * c) ≡ rounded minus n d
rounded_shared false n d c some more =
    let e : 2 * (n * c) + d * c ≡ (2 * n + d) * c = grind arith in
    let f : 2 * (d * c) ≡ 2 * d * c = grind arith in
    ap (λ k. k / (2 * (d * c))) e ∙ ap (λ k. (2 * n + d) * c / k) f ∙ mul-div-mul_right {m = c} (2 * n + d) (2 * d) more
rounded_shared true n d c some more =
    let q = (2 * n + d - 1) / (2 * d) in
    let low : q * (2 * d) ≤ 2 * n + d - 1 = div-mul-le_self (2 * n + d - 1) (2 * d) in
    let high : 2 * n + d - 1 < q * (2 * d) + 2 * d =
    lt-div-mul-add {a = 2 * n + d - 1} {b = 2 * d} (omega (arith, some)) in
    let both = below_half q (2 * n + d) (2 * d) c more (omega (arith, some)) low high in
    let e : 2 * (n * c) + d * c ≡ (2 * n + d) * c = grind arith in
    let f : 2 * (d * c) ≡ 2 * d * c = grind arith in
    ap (λ k. (k - 1) / (2 * (d * c))) e ∙ ap (λ k. ((2 * n + d) * c - 1) / k) f
    ∙ div-eq_of_lt-le {k = q} (2 * d * c) {m = (2 * n + d) * c - 1} both.0 both.1

-- a power of ten is one that is not higher times the power of the difference
split_power : (a b : ℕ) → a ≤ b → 10 ^ b ≡ 10 ^ (b - a) * 10 ^ a
split_power a b less = ap (λ k. 10 ^ k) (let e : b ≡ (b - a) + a = omega (arith, less) in e) ∙ pow-add 10 (b - a) a

-- where the exponent wins, the value is whole
pub rounded_up : (minus : Bool) (n raised down : ℕ) → down ≤ raised
    → rounded minus (n * 10 ^ raised) (10 ^ down) ≡ n * 10 ^ (raised - down)
rounded_up minus n raised down less =
    let e : n * (10 ^ (raised - down) * 10 ^ down) ≡ n * 10 ^ (raised - down) * 10 ^ down = grind arith in
    let one : 10 ^ down ≡ 1 * 10 ^ down = omega arith in
    ap (λ k. rounded minus (n * k) (10 ^ down)) (split_power down raised less)
    ∙ ap (λ k. rounded minus k (10 ^ down)) e
    ∙ ap (rounded minus (n * 10 ^ (raised - down) * 10 ^ down)) one
    ∙ rounded_shared minus (n * 10 ^ (raised - down)) 1 (10 ^ down) (omega arith) (power_some down)
    ∙ rounded_one minus (n * 10 ^ (raised - down))

-- else what is left of the division
pub rounded_down : (minus : Bool) (n raised down : ℕ) → raised ≤ down
    → rounded minus (n * 10 ^ raised) (10 ^ down) ≡ rounded minus n (10 ^ (down - raised))
rounded_down minus n raised down less =
    ap (rounded minus (n * 10 ^ raised)) (split_power raised down less)
    ∙ rounded_shared minus n (10 ^ (down - raised)) (10 ^ raised) (power_some (down - raised)) (power_some raised)

-- a number that is divided by a power past every value
pub rounded_past : (minus : Bool) (n tens : ℕ) → n < 2 ^ 112 → 34 < tens
    → rounded minus n (10 ^ tens) ≡ 0
rounded_past minus n tens small more = rounded_none minus n (10 ^ tens) (omega (arith, power_past tens more, small))

-- and so its grid value
pub none_past : (minus : Bool) (n tens : ℕ) → n < 2 ^ 112 → 34 < tens
    → 0 ≡ min (rounded minus n (10 ^ tens)) GREATEST
none_past minus n tens small more = ap (λ k. min k GREATEST) (sym (rounded_past minus n tens small more))

-- the size of a grid value, as the code finds it
pub size_up : (minus : Bool) (n up down : ℕ) → down ≤ up
    → min (n * 10 ^ (up - down)) GREATEST ≡ size_of minus n up down
size_up minus n up down less = ap (λ k. min k GREATEST) (sym (rounded_up minus n up down less))

-- where the exponent does not win, it is what is left of the division, rounded and cut off
pub size_down : (minus : Bool) (n up down : ℕ) → up ≤ down
    → min (rounded minus n (10 ^ (down - up))) GREATEST ≡ size_of minus n up down
size_down minus n up down less = ap (λ k. min k GREATEST) (sym (rounded_down minus n up down less))
