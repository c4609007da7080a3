-- Polynomial identities over the integers. Each integer is a difference of two naturals, and sums and products of
-- differences are differences again; two are equal by an equation of naturals, which `omega arith` multiplies out.
use Rattle.std.proofs.Common.{◌≡◌, ℕ, ◌+◌, ◌*◌, ℤ, pos, ◌+ℤ◌, ◌-ℤ◌, ◌*ℤ◌, neg_ℤ, arith, ap}
use Rattle.std.proofs.lemmas.Int.{ints}
use borrow.Author.Differences.{up, down, same_in, same_out, sum_is_lem, neg_is, product_is}

-- the difference of two naturals
pub diff : ℕ → ℕ → ℤ
diff a b = pos a -ℤ pos b

-- each integer is the difference of its two parts, of which one is 0
pub parts : (z : ℤ) → diff (up z) (down z) ≡ z
unfolding diff
parts z = omega (arith, ints)

-- differences are equal by an equation between naturals
pub same_diff : (a b c d : ℕ) → a + d ≡ c + b → diff a b ≡ diff c d
unfolding diff
same_diff a b c d e = omega (arith, ints)

-- zero as a difference
pub zero-diff : pos 0 ≡ diff 0 0
unfolding diff
zero-diff = omega (arith, ints)

-- a sum of differences
pub add-diff : (a b c d : ℕ) → diff a b +ℤ diff c d ≡ diff (a + c) (b + d)
unfolding diff
add-diff a b c d = omega (arith, ints)

-- a difference of differences
pub sub-diff : (a b c d : ℕ) → diff a b -ℤ diff c d ≡ diff (a + d) (b + c)
unfolding diff
sub-diff a b c d = omega (arith, ints)

-- a difference, negated
pub neg-diff : (a b : ℕ) → neg_ℤ (diff a b) ≡ diff b a
unfolding diff
neg-diff a b = omega (arith, ints)

-- a product of two differences does not depend on the naturals that give them
crossed : (x x' y y' a b c d : ℕ) → x + b ≡ x' + a → y + d ≡ y' + c →
    (x * y + x' * y') + (a * d + b * c) ≡ (x * y' + x' * y) + (a * c + b * d)
crossed x x' y y' a b c d e f =
    let P : (x + b) * y ≡ (x' + a) * y = ap (λ (k : ℕ). k * y) e in
    let Q : (x + b) * y' ≡ (x' + a) * y' = ap (λ (k : ℕ). k * y') e in
    let R : a * (y + d) ≡ a * (y' + c) = ap (λ (k : ℕ). a * k) f in
    let S : b * (y + d) ≡ b * (y' + c) = ap (λ (k : ℕ). b * k) f in
    omega arith

-- so the parts of a product are those of any differences
split_mul : (x y : ℤ) (a b c d : ℕ) → up x + b ≡ down x + a → up y + d ≡ down y + c
    → up (x *ℤ y) + (a * d + b * c) ≡ down (x *ℤ y) + (a * c + b * d)
split_mul x y a b c d e f = omega (arith, product_is x y, crossed (up x) (down x) (up y) (down y) a b c d e f)

-- a product of differences
pub mul-diff : (a b c d : ℕ) → diff a b *ℤ diff c d ≡ diff (a * c + b * d) (a * d + b * c)
unfolding diff
mul-diff a b c d =
    let m : up ((pos a -ℤ pos b) *ℤ (pos c -ℤ pos d)) + (a * d + b * c)
    ≡ down ((pos a -ℤ pos b) *ℤ (pos c -ℤ pos d)) + (a * c + b * d)
    = split_mul (pos a -ℤ pos b) (pos c -ℤ pos d) a b c d (omega (arith, ints)) (omega (arith, ints)) in
    same_in _ _ (omega (arith, sum_is_lem, neg_is, m))

-- what `simp` uses to bring an expression of differences into one difference
pub ruleset to_diff = (add-diff, sub-diff, neg-diff, mul-diff)

-- what `omega` uses for equations that are linear in products, which stay unknowns
pub ruleset linear = (same_in, same_out, sum_is_lem, neg_is)

-- an equation by another one: x + r = y + l, and l = r
pub cancel : (x y l r : ℤ) → x +ℤ r ≡ y +ℤ l → l ≡ r → x ≡ y
cancel x y l r e h = omega (arith, linear)

-- a negation goes out of the first factor
pub neg-times : (a b : ℤ) → neg_ℤ a *ℤ b ≡ neg_ℤ (a *ℤ b)
neg-times a b = rw (← parts a, ← parts b) (simp to_diff (same_diff _ _ _ _ (omega arith)))

-- a negation goes out of the second factor
pub times-neg : (a b : ℤ) → a *ℤ neg_ℤ b ≡ neg_ℤ (a *ℤ b)
times-neg a b = rw (← parts a, ← parts b) (simp to_diff (same_diff _ _ _ _ (omega arith)))

-- a product by zero
pub times-zero : (a : ℤ) → a *ℤ pos 0 ≡ pos 0
times-zero a = rw zero-diff (rw (← parts a) (simp to_diff (same_diff _ _ _ _ (omega arith))))

-- factors in either order
pub times_comm : (a b : ℤ) → a *ℤ b ≡ b *ℤ a
times_comm a b = rw (← parts a, ← parts b) (simp to_diff (same_diff _ _ _ _ (omega arith)))

-- factors in either grouping
pub times_assoc : (a b c : ℤ) → (a *ℤ b) *ℤ c ≡ a *ℤ (b *ℤ c)
times_assoc a b c = rw (← parts a, ← parts b, ← parts c) (simp to_diff (same_diff _ _ _ _ (omega arith)))

-- the last two of three factors change places
pub moved : (a b c : ℤ) → (a *ℤ b) *ℤ c ≡ (a *ℤ c) *ℤ b
moved a b c = rw (← parts a, ← parts b, ← parts c) (simp to_diff (same_diff _ _ _ _ (omega arith)))

-- a product of a difference
pub sub-times : (a b c : ℤ) → (a -ℤ b) *ℤ c ≡ a *ℤ c -ℤ b *ℤ c
sub-times a b c = rw (← parts a, ← parts b, ← parts c)
    (simp to_diff (same_diff _ _ _ _ (omega arith)))

-- a product by a difference
pub times-sub : (a b c : ℤ) → a *ℤ (b -ℤ c) ≡ a *ℤ b -ℤ a *ℤ c
times-sub a b c = rw (← parts a, ← parts b, ← parts c)
    (simp to_diff (same_diff _ _ _ _ (omega arith)))

-- a product of a sum
pub add-times : (a b c : ℤ) → (a +ℤ b) *ℤ c ≡ a *ℤ c +ℤ b *ℤ c
add-times a b c = rw (← parts a, ← parts b, ← parts c)
    (simp to_diff (same_diff _ _ _ _ (omega arith)))

-- a product by a sum
pub times-add : (a b c : ℤ) → a *ℤ (b +ℤ c) ≡ a *ℤ b +ℤ a *ℤ c
times-add a b c = rw (← parts a, ← parts b, ← parts c)
    (simp to_diff (same_diff _ _ _ _ (omega arith)))
