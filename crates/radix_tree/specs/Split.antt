-- Where a range of keys is parted: one step of the recursion from the top that makes the tree.
use Rattle.std.specs.Prelude.{ℕ, suc, zero, ◌-◌, ◌==◌, if◌then◌else◌, List}
use Rattle.std.specs.Int.{bit_at}
use Rattle.morton_key.specs.declared.keys.Key.{Key}
use Rattle.morton_key.specs.declared.keys.TheConstants.{WIDTH, POSITION_WIDTH}
use Rattle.morton_key.specs.Bits.{differing}
use Rattle.morton_key.specs.Keys.{code_at}

-- the last position up to b whose number has 0 in bit k
unfoldable pub last_clear : (ℕ → ℕ) → ℕ → ℕ → ℕ
last_clear number k zero = zero
last_clear number k (suc b) = if bit_at (number (suc b)) k == 0 then suc b else last_clear number k b

-- the last position of [a, b] whose code has 0 in the highest bit in which the codes at a and b differ;
-- where these are equal, the same with the positions themselves
unfoldable pub split : List Key → ℕ → ℕ → ℕ
split keys a b =
    if code_at keys a == code_at keys b
    then last_clear (λ p. p) (differing POSITION_WIDTH a b - 1) b
    else last_clear (code_at keys) (differing WIDTH (code_at keys a) (code_at keys b) - 1) b
