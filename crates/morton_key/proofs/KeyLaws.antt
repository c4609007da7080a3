use Rattle.std.proofs.Common.{◌≡◌, ◌≢◌, ℕ, ◌+◌, ◌-◌, ◌^◌, ◌<◌, ◌≤◌, arith, inl, inr, List, length}
use Rattle.std.specs.Prelude.{◌==◌, bit_xor}
use Rattle.std.specs.Int.{bit_at}
use Rattle.std.specs.Int.Count.{count_leading_zeros}
use Rattle.std.proofs.lemmas.Nat.{xor_lt}
use Rattle.std.proofs.lemmas.Nat.Bits.{bit_at_cat_low, bit_at_cat_high}
use Rattle.std.proofs.lemmas.Bool.{cond_both, eqb-true, eqb-false, eq-eqb, ne_eqb, cond-false, cond-true}
use Rattle.morton_key.specs.declared.keys.Key.{Key}
use Rattle.morton_key.specs.declared.keys.TheConstants.{WIDTH, POSITION_WIDTH}
use Rattle.morton_key.specs.Bits.{prefix, differing}
use Rattle.morton_key.specs.Keys.{code_at, IsLawful}
use Rattle.morton_key.specs.Measure.{measure}
use Rattle.morton_key.proofs.Tags.{TAG_WIDTH, tag, gap}
use Rattle.morton_key.proofs.BitLaws.{prefix_differing, prefix_xor}
use Rattle.morton_key.proofs.PairedBits.{differing_low_part, differing_high_part, leading_narrow}

module _ (keys : List Key) (ok : IsLawful keys) where
  -- codes do not fall
  pub code_le : (i j : ℕ) → i < j → j < length keys → code_at keys i ≤ code_at keys j
  unfolding code_at
  code_le i j lt h = elim (ok.rising.before i j lt h) [ inl l ↦ omega arith | inr (e, l) ↦ omega arith ]

  -- and tags rise
  pub tag_rises : (i j : ℕ) → i < j → j < length keys → tag keys i < tag keys j
  unfolding tag
  tag_rises i j lt h = omega (arith, code_le i j lt h)

  -- a tag has its bits and no more
  pub tag_small : (i : ℕ) → i < length keys → tag keys i < 2 ^ TAG_WIDTH
  unfolding tag
  tag_small i h = omega (arith, ok.narrow i h, ok.few)

  -- equal codes: tags differ where the positions do
  pub gap_same_code : (i j : ℕ) → i < length keys → j < length keys → code_at keys i ≡ code_at keys j →
      gap keys i j ≡ differing POSITION_WIDTH i j
  unfolding tag
  gap_same_code i j p q e =
      rw e (differing_low_part TAG_WIDTH POSITION_WIDTH (code_at keys j) i j (omega arith) (omega (arith, ok.few))
      (omega (arith, ok.few)))

  -- other codes: tags differ where the codes do
  pub gap_other_code : (i j : ℕ) → i < length keys → j < length keys → code_at keys i ≢ code_at keys j →
      gap keys i j ≡ POSITION_WIDTH + differing WIDTH (code_at keys i) (code_at keys j)
  unfolding tag
  gap_other_code i j p q ne = differing_high_part WIDTH POSITION_WIDTH (code_at keys i) (code_at keys j) i j ne
      (ok.narrow i p) (ok.narrow j q) (omega (arith, ok.few)) (omega (arith, ok.few))

  -- a measure and a gap make up the width of a tag
  pub measure_gap : (i j : ℕ) → i < length keys → j < length keys → measure keys i j + gap keys i j ≡ TAG_WIDTH
  unfolding measure
  measure_gap i j p q =
      cond_both (code_at keys i == code_at keys j) (WIDTH + prefix POSITION_WIDTH i j)
      (prefix WIDTH (code_at keys i) (code_at keys j)) (λ z. z + gap keys i j ≡ TAG_WIDTH)
      (λ e. omega (arith, gap_same_code i j p q (eqb-true _ _ e), prefix_differing POSITION_WIDTH i j))
      (λ e. omega (
        arith,
        gap_other_code i j p q (eqb-false _ _ e),
        prefix_differing WIDTH (code_at keys i) (code_at keys j),
      ))

  -- no measure is above the width of a tag
  pub measure_most : (i j : ℕ) → i < length keys → j < length keys → measure keys i j ≤ TAG_WIDTH
  measure_most i j p q = omega (arith, measure_gap i j p q)

  -- the measure is the length of the common prefix of two tags
  pub measure_prefix : (i j : ℕ) → i < length keys → j < length keys →
      measure keys i j ≡ prefix TAG_WIDTH (tag keys i) (tag keys j)
  measure_prefix i j p q = omega (arith, measure_gap i j p q, prefix_differing TAG_WIDTH (tag keys i) (tag keys j))

  -- the low bits of a tag are its position's
  pub tag_low : (p k : ℕ) → k < POSITION_WIDTH → bit_at (tag keys p) k ≡ bit_at p k
  unfolding tag
  tag_low p k lt = bit_at_cat_low (code_at keys p) POSITION_WIDTH p k lt

  -- and the others its code's
  pub tag_high : (p k : ℕ) → p < length keys → POSITION_WIDTH ≤ k →
      bit_at (tag keys p) k ≡ bit_at (code_at keys p) (k - POSITION_WIDTH)
  unfolding tag
  tag_high p k h le = bit_at_cat_high (code_at keys p) POSITION_WIDTH p k (omega (arith, ok.few)) le

  -- the measure of equal codes, by the zeros before the exclusive or of the positions in a word of 32 bits
  pub measure_same_code : (i j : ℕ) → i < length keys → j < length keys → code_at keys i ≡ code_at keys j →
      count_leading_zeros 32 (bit_xor i j) + WIDTH ≡ 32 - POSITION_WIDTH + measure keys i j
  unfolding measure
  measure_same_code i j p q e = omega (
    arith,
    cond-true (code_at keys i == code_at keys j) (WIDTH + prefix POSITION_WIDTH i j)
        (prefix WIDTH (code_at keys i) (code_at keys j)) (eq-eqb _ _ e),
    prefix_xor POSITION_WIDTH i j (omega (arith, ok.few)) (omega (arith, ok.few)),
    leading_narrow (32 - POSITION_WIDTH) POSITION_WIDTH (bit_xor i j)
        (xor_lt POSITION_WIDTH i j (omega (arith, ok.few)) (omega (arith, ok.few))),
  )

  -- and of other codes, by those before the exclusive or of the codes in a word of 64 bits
  pub measure_other_code : (i j : ℕ) → i < length keys → j < length keys → code_at keys i ≢ code_at keys j →
      count_leading_zeros 64 (bit_xor (code_at keys i) (code_at keys j)) ≡ 64 - WIDTH + measure keys i j
  unfolding measure
  measure_other_code i j p q ne = omega (
    arith,
    cond-false (code_at keys i == code_at keys j) (WIDTH + prefix POSITION_WIDTH i j)
        (prefix WIDTH (code_at keys i) (code_at keys j)) (ne_eqb _ _ ne),
    prefix_xor WIDTH (code_at keys i) (code_at keys j) (ok.narrow i p) (ok.narrow j q),
    leading_narrow (64 - WIDTH) WIDTH (bit_xor (code_at keys i) (code_at keys j))
        (xor_lt WIDTH (code_at keys i) (code_at keys j) (ok.narrow i p) (ok.narrow j q)),
  )
