-- The zeros before the first bit in which two codes differ.
use Rattle.std.proofs.Common.{◌≡◌, ℕ, ◌+◌, ◌-◌, ◌<◌, min, ap, arith, inl, inr, List, length}
use Rattle.std.specs.Prelude.{◌==◌, bit_xor}
use Rattle.std.specs.Int.Count.{count_leading_zeros, leading_of_zero}
use Rattle.std.specs.Int.Bits.{xor_self}
use Rattle.std.proofs.lemmas.Bool.{cases_eq, eq-eqb, ne_eqb, cond-true, cond-false}
use Rattle.morton_key.specs.declared.keys.Key.{Key}
use Rattle.morton_key.specs.declared.keys.TheConstants.{WIDTH, POSITION_WIDTH}
use Rattle.morton_key.specs.Bits.{prefix}
use Rattle.morton_key.specs.Keys.{code_at, IsLawful}
use Rattle.morton_key.specs.Measure.{measure}
use Rattle.morton_key.proofs.BitLaws.{prefix_differing}
use Rattle.morton_key.proofs.KeyLaws.{measure_other_code}

-- in a word of 64 bits they are the bits that a code does not have, and those that the codes share
pub zeros_before : (keys : List Key) → IsLawful keys → (i j : ℕ) → i < length keys → j < length keys →
    count_leading_zeros 64 (bit_xor (code_at keys i) (code_at keys j)) ≡ 64 - WIDTH + min WIDTH (measure keys i j)
unfolding measure
zeros_before keys ok i j p q = elim (cases_eq (code_at keys i) (code_at keys j)) [
  | inl e ↦ omega (
    arith,
    ap (λ x. count_leading_zeros 64 (bit_xor x (code_at keys j))) e,
    ap (count_leading_zeros 64) (xor_self (code_at keys j)),
    leading_of_zero 64,
    cond-true (code_at keys i == code_at keys j) (WIDTH + prefix POSITION_WIDTH i j)
        (prefix WIDTH (code_at keys i) (code_at keys j)) (eq-eqb _ _ e),
  )
  | inr ne ↦ omega (
    arith,
    measure_other_code keys ok i j p q ne,
    prefix_differing WIDTH (code_at keys i) (code_at keys j),
    cond-false (code_at keys i == code_at keys j) (WIDTH + prefix POSITION_WIDTH i j)
        (prefix WIDTH (code_at keys i) (code_at keys j)) (ne_eqb _ _ ne),
  )
]
