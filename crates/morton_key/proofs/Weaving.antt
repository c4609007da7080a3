use Rattle.std.proofs.Common.{◌≡◌, ◌≢◌, ℕ, suc, zero, ◌+◌, ◌-◌, ◌*◌, ◌/◌, ◌%◌, ◌^◌, ◌<◌, ◌≤◌, max, sym, ap, ◌∙◌, arith, inl, inr, subst}
use Rattle.std.specs.Prelude.{bit_or}
use Rattle.std.specs.Int.{bit_at}
use Rattle.std.proofs.lemmas.Nat.{pow-add, or_lt, mul-add-lt}
use Rattle.std.proofs.lemmas.Nat.Bits.{bit_at_or, bit_at-lt, bit_at_above, bit_at_cat_low, bit_at_cat_high, same_from_bits_below}
use Rattle.std.proofs.lemmas.Bool.{cases_eq, cases_lt}
use Rattle.morton_key.specs.declared.keys.TheConstants.{LEVELS, WIDTH}
use Rattle.morton_key.specs.Codes.{interleaved}
use Rattle.morton_key.specs.Spread.{IsSpread}
use Rattle.morton_key.proofs.Spreading.{bit_at_shifted_below, bit_at_shifted_above}

-- v is the bit that three numbers taken in turn have at that place
pub record IsBitOf (x y z v i : ℕ) : Type 0 where
  pub first : i % 3 ≡ 2 → v ≡ bit_at x (i / 3)
  pub second : i % 3 ≡ 1 → v ≡ bit_at y (i / 3)
  pub third : i % 3 ≡ 0 → v ≡ bit_at z (i / 3)

-- two such bits are one
same_bit : (x y z u v i : ℕ) → IsBitOf x y z u i → IsBitOf x y z v i → u ≡ v
same_bit x y z u v i p q = elim (cases_eq (i % 3) 0) [
  | inl e ↦ p.third e ∙ sym (q.third e)
  | inr more ↦ elim (cases_eq (i % 3) 1) [
    | inl e ↦ p.second e ∙ sym (q.second e)
    | inr most ↦ let e : i % 3 ≡ 2 = omega arith in p.first e ∙ sym (q.first e)
  ]
]

module _ (x y z : ℕ) where
  -- one more level puts three bits before the others
  abbrev three : ℕ → ℕ
  three k = 4 * bit_at x k + 2 * bit_at y k + bit_at z k

  -- so says the definition
  interleaved_more : (k : ℕ) → interleaved (suc k) x y z ≡ three k * 2 ^ (3 * k) + interleaved k x y z
  unfolding interleaved
  interleaved_more k = omega (
    arith,
    ap (λ p. p * bit_at x k) (pow-add 2 (3 * k) 2),
    ap (λ p. p * bit_at y k) (pow-add 2 (3 * k) 1),
  )

  -- a code of so many levels has three bits for each
  pub interleaved_small : (k : ℕ) → interleaved k x y z < 2 ^ (3 * k)
  unfolding interleaved
  interleaved_small zero = omega arith
  interleaved_small (suc k) =
      let below : three k ≤ 7 = omega (arith, bit_at-lt x k, bit_at-lt y k, bit_at-lt z k) in
      let e : 3 * suc k ≡ 3 * k + 3 = omega arith in
      rw (interleaved_more k)
      (rw e (omega (
        arith,
        pow-add 2 (3 * k) 3,
        mul-add-lt (three k) (2 ^ (3 * k)) (interleaved k x y z) 8 (omega arith) (interleaved_small k),
      )))

  -- the bits of a code are those of its numbers in turn
  interleaved_bits : (k i : ℕ) → i < 3 * k → IsBitOf x y z (bit_at (interleaved k x y z) i) i
  interleaved_bits zero i lt = absurd (omega arith)
  interleaved_bits (suc k) i lt = elim (cases_lt i (3 * k)) [
    | inl below ↦
        subst (λ v. IsBitOf x y z v i)
        (sym (ap (λ n. bit_at n i) (interleaved_more k)
        ∙ bit_at_cat_low (three k) (3 * k) (interleaved k x y z) i below)) (interleaved_bits k i below)
    | inr above ↦
        let e = ap (λ n. bit_at n i) (interleaved_more k)
        ∙ bit_at_cat_high (three k) (3 * k) (interleaved k x y z) i (interleaved_small k) above in
        subst (λ v. IsBitOf x y z v i) (sym e) (top k i above lt)
  ]
    where
      top : (k i : ℕ) → 3 * k ≤ i → i < 3 * suc k → IsBitOf x y z (bit_at (three k) (i - 3 * k)) i
      top k i le lt = record {
        first = λ r. let place : i - 3 * k ≡ 2 = omega arith in let level : i / 3 ≡ k = omega arith in
            rw (place, level) (omega (arith, bit_at-lt x k, bit_at-lt y k, bit_at-lt z k));
        second = λ r. let place : i - 3 * k ≡ 1 = omega arith in let level : i / 3 ≡ k = omega arith in
            rw (place, level) (omega (arith, bit_at-lt x k, bit_at-lt y k, bit_at-lt z k));
        third = λ r. let place : i - 3 * k ≡ 0 = omega arith in let level : i / 3 ≡ k = omega arith in
            rw (place, level) (omega (arith, bit_at-lt x k, bit_at-lt y k, bit_at-lt z k));
      }

  -- three spread words, moved apart
  abbrev woven : ℕ → ℕ → ℕ → ℕ
  woven u v w = bit_or (bit_or (u * 2 ^ 2 % 2 ^ 64) (v * 2 ^ 1 % 2 ^ 64)) w

  module _ (u v w : ℕ) (spread_x : IsSpread 1 x u) (spread_y : IsSpread 1 y v) (spread_z : IsSpread 1 z w) where
    -- a bit of the woven word is the greatest of the three at its place
    woven_bit : (i : ℕ) →
        bit_at (woven u v w) i ≡ max (max (bit_at (u * 2 ^ 2 % 2 ^ 64) i) (bit_at (v * 2 ^ 1 % 2 ^ 64) i)) (bit_at w i)
    woven_bit i = bit_at_or (bit_or (u * 2 ^ 2 % 2 ^ 64) (v * 2 ^ 1 % 2 ^ 64)) w i
        ∙ ap (λ b. max b (bit_at w i)) (bit_at_or (u * 2 ^ 2 % 2 ^ 64) (v * 2 ^ 1 % 2 ^ 64) i)

    -- a bit of a spread word, or 0 between its bits, after a shift
    moved : (n word s i : ℕ) → IsSpread 1 n word → i < 64 → s ≤ i → (i - s) % 3 ≡ 0 →
        bit_at (word * 2 ^ s % 2 ^ 64) i ≡ bit_at n ((i - s) / 3)
    moved n word s i h lt le e = bit_at_shifted_above word s i lt le
        ∙ (h.inside (i - s) (omega arith) (omega arith) ∙ ap (bit_at n) (omega (arith, e)))

    -- at all other places it is 0
    gone : (n word s i : ℕ) → IsSpread 1 n word → i < 64 → (s ≤ i → (i - s) % 3 ≢ 0) →
        bit_at (word * 2 ^ s % 2 ^ 64) i ≡ 0
    gone n word s i h lt ne = elim (cases_lt i s) [
      | inl below ↦ bit_at_shifted_below word s i lt below
      | inr le ↦ let other = ne le in bit_at_shifted_above word s i lt le
          ∙ h.between (i - s) (omega arith) (omega arith)
    ]

    -- so each bit of the woven word is the one that the definition names
    woven_bits : (i : ℕ) → i < 64 → IsBitOf x y z (bit_at (woven u v w) i) i
    woven_bits i lt = record {
      first = λ r. omega (
        arith,
        woven_bit i,
        moved x u 2 i spread_x lt (omega arith) (omega arith),
        ap (bit_at x) (let e : (i - 2) / 3 ≡ i / 3 = omega arith in e),
        gone y v 1 i spread_y lt (λ le e. omega arith),
        spread_z.between i lt (omega arith),
      );
      second = λ r. omega (
        arith,
        woven_bit i,
        gone x u 2 i spread_x lt (λ le e. omega arith),
        moved y v 1 i spread_y lt (omega arith) (omega arith),
        ap (bit_at y) (let e : (i - 1) / 3 ≡ i / 3 = omega arith in e),
        spread_z.between i lt (omega arith),
      );
      third = λ r. omega (
        arith,
        woven_bit i,
        gone x u 2 i spread_x lt (λ le e. omega arith),
        gone y v 1 i spread_y lt (λ le e. omega arith),
        spread_z.inside i lt (omega arith),
        ap (bit_at z) (let e : i / 3 * 1 + i % 3 ≡ i / 3 = omega arith in e),
      );
    }

    module _ (x_small : x < 2 ^ LEVELS) (y_small : y < 2 ^ LEVELS) (z_small : z < 2 ^ LEVELS) where
      -- above its bits a code has zeros, as its numbers have
      no_bits : (i : ℕ) → WIDTH ≤ i → IsBitOf x y z (bit_at (interleaved LEVELS x y z) i) i
      no_bits i le =
          let none = bit_at_above (interleaved LEVELS x y z) WIDTH i (interleaved_small LEVELS) le in
          record {
            first = λ r. none ∙ sym (bit_at_above x LEVELS (i / 3) x_small (omega arith));
            second = λ r. none ∙ sym (bit_at_above y LEVELS (i / 3) y_small (omega arith));
            third = λ r. none ∙ sym (bit_at_above z LEVELS (i / 3) z_small (omega arith));
          }

      -- the three words are the code
      pub woven_is : w < 2 ^ 64 → woven u v w ≡ interleaved LEVELS x y z
      woven_is fits =
          same_from_bits_below 64 (woven u v w) (interleaved LEVELS x y z)
          (or_lt 64 (bit_or (u * 2 ^ 2 % 2 ^ 64) (v * 2 ^ 1 % 2 ^ 64)) w
          (or_lt 64 (u * 2 ^ 2 % 2 ^ 64) (v * 2 ^ 1 % 2 ^ 64) (omega arith) (omega arith)) fits)
          (omega (arith, interleaved_small LEVELS))
          (λ i lt. same_bit x y z (bit_at (woven u v w) i) (bit_at (interleaved LEVELS x y z) i) i (woven_bits i lt)
          (elim (cases_lt i WIDTH) [
            | inl below ↦ interleaved_bits LEVELS i below
            | inr above ↦ no_bits i above
          ]))
