-- Where the bits of two numbers differ first, read from the highest bit down.
use Rattle.std.specs.Prelude.{ℕ, suc, zero, ◌==◌, if◌then◌else◌}
use Rattle.std.specs.Int.{bit_at}

-- the length of the common prefix of two numbers of that many bits
unfoldable pub prefix : ℕ → ℕ → ℕ → ℕ
prefix zero x y = 0
prefix (suc k) x y = if bit_at x k == bit_at y k then suc (prefix k x y) else 0

-- the place of the highest bit in which two numbers of that many bits differ, plus one; 0 where none differs
unfoldable pub differing : ℕ → ℕ → ℕ → ℕ
differing zero x y = 0
differing (suc k) x y = if bit_at x k == bit_at y k then differing k x y else suc k
