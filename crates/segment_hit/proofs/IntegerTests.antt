-- What comparisons of integers, as tests, say.
use Rattle.std.proofs.Common.{◌≡◌, ℤ, ◌≤ℤ◌, ◌<ℤ◌, Bool, true, false, not, int_le, int_lt, refl, ap}
use Rattle.std.specs.Int.Signed.{le_z_yes, lt_z_yes, lt_z_no}
use Rattle.std.proofs.Math.Dec.{T}
use Rattle.std.proofs.lemmas.Bool.{both_ways}
use Rattle.std.proofs.lemmas.Float.{T_from_true}
use Rattle.std.proofs.lemmas.Int.{by_lt_z}

-- a test that holds is true
is_true : (b : Bool) → T b → b ≡ true
is_true true t = refl
is_true false t = absurd t

-- a test that passes
pub is_at_most : (a b : ℤ) → int_le a b ≡ true → a ≤ℤ b
is_at_most a b e = le_z_yes (T_from_true (int_le a b) e)

-- and that of strictly less
pub is_below : (a b : ℤ) → int_lt a b ≡ true → a <ℤ b
is_below a b e = lt_z_yes (T_from_true (int_lt a b) e)

-- a fact that makes it pass
pub at_most_test : (a b : ℤ) → a ≤ℤ b → int_le a b ≡ true
at_most_test a b h = is_true (int_le a b) h.le

-- and that of strictly less
pub below_test : (a b : ℤ) → a <ℤ b → int_lt a b ≡ true
below_test a b h = is_true (int_lt a b) h.lt

-- a test that fails
pub is_not_at_most : (a b : ℤ) → int_le a b ≡ false → b <ℤ a
is_not_at_most a b e = by_lt_z b a (λ h. h) (λ h. absurd (both_ways (int_le a b) e (at_most_test a b h)))

-- and that of strictly less
pub is_not_below : (a b : ℤ) → int_lt a b ≡ false → b ≤ℤ a
is_not_below a b e = lt_z_no (T_from_true (not (int_lt a b)) (ap not e))
