-- Numbers with gaps between their bits, which the crate's own functions cite. No public clause cites this module.
use Rattle.std.specs.Prelude.{ℕ, ◌≡◌, ◌<◌, ◌≤◌, ◌+◌, ◌*◌, ◌/◌, ◌%◌}
use Rattle.std.specs.Int.{bit_at}

-- a word of 64 bits has the bits of x in groups of that size, each followed by twice as many zeros
pub record IsSpread (group x word : ℕ) : Type 0 where
  pub inside : (i : ℕ) → i < 64 → i % (3 * group) < group →
      bit_at word i ≡ bit_at x (i / (3 * group) * group + i % (3 * group))
  pub between : (i : ℕ) → i < 64 → group ≤ i % (3 * group) → bit_at word i ≡ 0
