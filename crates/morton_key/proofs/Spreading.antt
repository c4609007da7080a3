use Rattle.std.proofs.Common.{◌≡◌, ℕ, ◌+◌, ◌-◌, ◌*◌, ◌/◌, ◌%◌, ◌^◌, ◌<◌, ◌≤◌, min, max, true, refl, sym, ap, ◌∙◌, arith, inl, inr, ◌⊎◌}
use Rattle.std.specs.Prelude.{◌==◌, nat_lt, bit_and, bit_or}
use Rattle.std.specs.Int.{bit_at}
use Rattle.std.proofs.lemmas.Nat.{shr_split, pow_pos}
use Rattle.std.proofs.lemmas.Nat.Bits.{bit_at_and, bit_at_or, bit_at-lt, bit_at-zero, bit_at_cat_low, bit_at_cat_high, bit_at_above}
use Rattle.std.proofs.lemmas.Bool.{cases_lt, eqb-true, eqb-false, lt-ltb, le-ltb, agree_below, agree_below_at}
use Rattle.morton_key.specs.Spread.{IsSpread}

-- ---- masks

-- the word has ones in groups of that size, each followed by twice as many zeros
pub record IsMask (group mask : ℕ) : Type 0 where
  pub inside : (i : ℕ) → i < 64 → i % (3 * group) < group → bit_at mask i ≡ 1
  pub between : (i : ℕ) → i < 64 → group ≤ i % (3 * group) → bit_at mask i ≡ 0

-- a mask is one where a look at each of its bits says so
pub is_mask : (group mask : ℕ) →
    agree_below (λ i. bit_at mask i == 1) (λ i. nat_lt (i % (3 * group)) group) 64 ≡ true → IsMask group mask
is_mask group mask h = record {
  inside = λ i. λ lt here. eqb-true _ _ (at i lt ∙ lt-ltb _ _ here);
  between = λ i. λ lt past. let other = eqb-false (bit_at mask i) 1 (at i lt ∙ le-ltb _ _ past) in
      omega (arith, bit_at-lt mask i, other);
}
  where
    at : (i : ℕ) → i < 64 → (bit_at mask i == 1) ≡ nat_lt (i % (3 * group)) group
    at i lt = agree_below_at (λ i. bit_at mask i == 1) (λ i. nat_lt (i % (3 * group)) group) 64 i h lt

-- ---- one shift

-- to cut a number to a word changes no bit of the word
bit_at_cut : (n i : ℕ) → i < 64 → bit_at (n % 2 ^ 64) i ≡ bit_at n i
bit_at_cut n i lt = sym (bit_at_cat_low (n / 2 ^ 64) 64 (n % 2 ^ 64) i lt) ∙ ap (λ z. bit_at z i) (shr_split n 64)

-- a word that is moved up has zeros below it
plus_none : (w s : ℕ) → w * 2 ^ s ≡ w * 2 ^ s + 0
plus_none w s = omega arith

-- a word shifted up has zeros below
pub bit_at_shifted_below : (w s i : ℕ) → i < 64 → i < s → bit_at (w * 2 ^ s % 2 ^ 64) i ≡ 0
bit_at_shifted_below w s i lt below = bit_at_cut (w * 2 ^ s) i lt
    ∙ (ap (λ z. bit_at z i) (plus_none w s) ∙ (bit_at_cat_low w s 0 i below ∙ bit_at-zero i))

-- and then its own bits
pub bit_at_shifted_above : (w s i : ℕ) → i < 64 → s ≤ i → bit_at (w * 2 ^ s % 2 ^ 64) i ≡ bit_at w (i - s)
bit_at_shifted_above w s i lt above = bit_at_cut (w * 2 ^ s) i lt
    ∙ (ap (λ z. bit_at z i) (plus_none w s) ∙ bit_at_cat_high w s 0 i (pow_pos s) above)

-- ---- one step

-- the word with the upper half of each group moved up
abbrev pub parted : ℕ → ℕ → ℕ → ℕ
parted group mask w = bit_and (bit_or w (w * 2 ^ (2 * group) % 2 ^ 64)) mask

-- a place of a small group stands in the lower half of a wide one
pub record InLower (group i : ℕ) : Type 0 where
  pub here : i % (3 * (2 * group)) < 2 * group
  pub source : i / (3 * (2 * group)) * (2 * group) + i % (3 * (2 * group)) ≡ i / (3 * group) * group + i % (3 * group)
  pub apart : 2 * group ≤ i → 2 * group ≤ (i - 2 * group) % (3 * (2 * group))

-- or comes from the upper half of one
pub record InUpper (group i : ℕ) : Type 0 where
  pub here : 2 * group ≤ i % (3 * (2 * group))
  pub up : 2 * group ≤ i
  pub from : (i - 2 * group) % (3 * (2 * group)) < 2 * group
  pub source : (i - 2 * group) / (3 * (2 * group)) * (2 * group) + (i - 2 * group) % (3 * (2 * group))
      ≡ i / (3 * group) * group + i % (3 * group)

-- each place of a group stands in the lower half of a wide group, or comes from the upper half of one
abbrev pub HasHalves : ℕ → Type 0
HasHalves group = (i : ℕ) → i % (3 * group) < group → InLower group i ⊎ InUpper group i

module _ (group mask x w : ℕ) (ones : IsMask group mask) (halves : HasHalves group) (wide : IsSpread (2 * group) x w)
  where
    bit_is : (i : ℕ) → bit_at (parted group mask w) i ≡
        min (max (bit_at w i) (bit_at (w * 2 ^ (2 * group) % 2 ^ 64) i)) (bit_at mask i)
    bit_is i = bit_at_and (bit_or w (w * 2 ^ (2 * group) % 2 ^ 64)) mask i
        ∙ ap (λ z. min z (bit_at mask i)) (bit_at_or w (w * 2 ^ (2 * group) % 2 ^ 64) i)

    lower : (i : ℕ) → i < 64 → i % (3 * group) < group → InLower group i →
        bit_at (parted group mask w) i ≡ bit_at x (i / (3 * group) * group + i % (3 * group))
    lower i lt here h =
        let own = wide.inside i lt h.here in
        let same = ap (bit_at x) h.source in
        let one = ones.inside i lt here in
        elim (cases_lt i (2 * group)) [
          | inl below ↦ omega (
            arith,
            bit_is i,
            one,
            own,
            same,
            bit_at_shifted_below w (2 * group) i lt below,
            bit_at-lt w i,
          )
          | inr above ↦
              let none : bit_at w (i - 2 * group) ≡ 0 = wide.between (i - 2 * group) (omega arith) (h.apart above) in
              let moved = bit_at_shifted_above w (2 * group) i lt above in
              omega (arith, bit_is i, one, own, same, moved, none, bit_at-lt w i)
        ]

    upper : (i : ℕ) → i < 64 → i % (3 * group) < group → InUpper group i →
        bit_at (parted group mask w) i ≡ bit_at x (i / (3 * group) * group + i % (3 * group))
    upper i lt here h =
        let none = wide.between i lt h.here in
        let moved : bit_at w (i - 2 * group) ≡ bit_at x (i / (3 * group) * group + i % (3 * group)) =
        wide.inside (i - 2 * group) (omega arith) h.from ∙ ap (bit_at x) h.source in
        omega (
          arith,
          bit_is i,
          ones.inside i lt here,
          none,
          moved,
          bit_at_shifted_above w (2 * group) i lt h.up,
          bit_at-lt w (i - 2 * group),
        )

    -- one step halves the groups
    pub halved : IsSpread group x (parted group mask w)
    halved = record {
      inside = λ i. λ lt here. elim (halves i here) [ inl h ↦ lower i lt here h | inr h ↦ upper i lt here h ];
      between = λ i. λ lt past. omega (arith, bit_is i, ones.between i lt past);
    }

-- ---- the five steps

-- a number of 32 bits is one group
pub whole : (x : ℕ) → x < 2 ^ 32 → IsSpread 32 x x
whole x small = record {
  inside = λ i. λ lt here. ap (bit_at x) (omega arith);
  between = λ i. λ lt past. bit_at_above x 32 i small (omega arith);
}

-- groups of 16 are halves of groups of 32
halves_16 : HasHalves 16
halves_16 i h = elim (cases_lt (i % 96) 32) [
  | inl lt ↦ inl (record { here = lt; source = omega arith; apart = λ up. omega arith })
  | inr le ↦ inr (record { here = le; up = omega arith; from = omega arith; source = omega arith })
]

-- groups of 8 are halves of groups of 16
halves_8 : HasHalves 8
halves_8 i h = elim (cases_lt (i % 48) 16) [
  | inl lt ↦ inl (record { here = lt; source = omega arith; apart = λ up. omega arith })
  | inr le ↦ inr (record { here = le; up = omega arith; from = omega arith; source = omega arith })
]

-- groups of 4 are halves of groups of 8
halves_4 : HasHalves 4
halves_4 i h = elim (cases_lt (i % 24) 8) [
  | inl lt ↦ inl (record { here = lt; source = omega arith; apart = λ up. omega arith })
  | inr le ↦ inr (record { here = le; up = omega arith; from = omega arith; source = omega arith })
]

-- groups of 2 are halves of groups of 4
halves_2 : HasHalves 2
halves_2 i h = elim (cases_lt (i % 12) 4) [
  | inl lt ↦ inl (record { here = lt; source = omega arith; apart = λ up. omega arith })
  | inr le ↦ inr (record { here = le; up = omega arith; from = omega arith; source = omega arith })
]

-- single bits are halves of pairs
halves_1 : HasHalves 1
halves_1 i h = elim (cases_lt (i % 6) 2) [
  | inl lt ↦ inl (record { here = lt; source = omega arith; apart = λ up. omega arith })
  | inr le ↦ inr (record { here = le; up = omega arith; from = omega arith; source = omega arith })
]

-- the first step takes one group of 32 bits to groups of 16
pub to_sixteen : (x w : ℕ) → w ≡ x → x < 2 ^ 32 → IsSpread 16 x (parted 16 0xffff_0000_0000_ffff w)
to_sixteen x w e small = halved 16 0xffff_0000_0000_ffff x w (is_mask 16 0xffff_0000_0000_ffff refl) halves_16
    (rw e (whole x small))

-- the second to groups of 8
pub to_eight : (x w : ℕ) → IsSpread 16 x w → IsSpread 8 x (parted 8 0x00ff_0000_ff00_00ff w)
to_eight x w h = halved 8 0x00ff_0000_ff00_00ff x w (is_mask 8 0x00ff_0000_ff00_00ff refl) halves_8 h

-- the third to groups of 4
pub to_four : (x w : ℕ) → IsSpread 8 x w → IsSpread 4 x (parted 4 0xf00f_00f0_0f00_f00f w)
to_four x w h = halved 4 0xf00f_00f0_0f00_f00f x w (is_mask 4 0xf00f_00f0_0f00_f00f refl) halves_4 h

-- the fourth to groups of 2
pub to_two : (x w : ℕ) → IsSpread 4 x w → IsSpread 2 x (parted 2 0x30c3_0c30_c30c_30c3 w)
to_two x w h = halved 2 0x30c3_0c30_c30c_30c3 x w (is_mask 2 0x30c3_0c30_c30c_30c3 refl) halves_2 h

-- the last to single bits, each followed by two zeros
pub to_one : (x w : ℕ) → IsSpread 2 x w → IsSpread 1 x (parted 1 0x9249_2492_4924_9249 w)
to_one x w h = halved 1 0x9249_2492_4924_9249 x w (is_mask 1 0x9249_2492_4924_9249 refl) halves_1 h
