-- What the quotient of whole numbers, rounded down, says of a fraction.
use Rattle.std.proofs.Common.{◌≡◌, ℕ, ◌+◌, ◌*◌, ◌/◌, ◌<◌, ◌≤◌, ℤ, pos, ◌+ℤ◌, ◌*ℤ◌, ◌<ℤ◌, arith, subst, sym, ap, ◌∙◌}
use Rattle.std.proofs.lemmas.Int.{ints}
use Rattle.std.proofs.Math.Nat.{lt-mul-div-succ, div-le_of_le-mul, div-mul-le_self}
use Rattle.std.proofs.lemmas.Nat.{mul-le}

-- it is past the quotient where 1 is added
pub floor_is : (n w d : ℕ) → 0 < d → n * w < (n * w / d + 1) * d
floor_is n w d some =
    let h : n * w < d * (n * w / d + 1) = lt-mul-div-succ (n * w) some in
    let turned : d * (n * w / d + 1) ≡ (n * w / d + 1) * d = about d (n * w / d + 1) in
    omega (arith, h, turned)
  where
    about : (x y : ℕ) → x * y ≡ y * x
    about x y = omega arith

-- it is at most the whole of what a part is taken of
pub floor_most : (n w d : ℕ) → n ≤ d → n * w / d ≤ w
floor_most n w d le = div-le_of_le-mul d (mul-le n w d w le (omega arith))

-- it is at most the quotient
pub floor_low : (n w d : ℕ) → 0 < d → n * w / d * d ≤ n * w
floor_low n w d some = div-mul-le_self (n * w) d
