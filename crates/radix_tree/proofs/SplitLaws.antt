use Rattle.std.proofs.Common.{◌≡◌, ℕ, suc, ◌+◌, ◌-◌, ◌/◌, ◌^◌, ◌<◌, ◌≤◌, refl, sym, ap, ◌∙◌, arith, inl, inr, subst, List, length}
use Rattle.std.specs.Prelude.{◌==◌}
use Rattle.std.specs.Int.{bit_at}
use Rattle.std.proofs.lemmas.Nat.{pow_pos}
use Rattle.std.proofs.lemmas.Nat.Bits.{bit_at-lt}
use Rattle.std.proofs.lemmas.Bool.{cond_both, eqb-true, eqb-false, cases_eq, cases_lt, cases_order}
use Rattle.morton_key.specs.declared.keys.Key.{Key}
use Rattle.morton_key.specs.declared.keys.TheConstants.{WIDTH, POSITION_WIDTH}
use Rattle.morton_key.specs.Bits.{differing}
use Rattle.morton_key.specs.Keys.{code_at, IsLawful}
use Rattle.morton_key.proofs.Tags.{TAG_WIDTH, tag, gap}
use Rattle.morton_key.proofs.BitLaws.{shift_step, differs_at, differing_least, differing_le, div_mono}
use Rattle.morton_key.proofs.PairedBits.{differing_pos}
use Rattle.morton_key.proofs.KeyLaws.{gap_same_code, gap_other_code, tag_low, tag_high}
use Rattle.morton_key.proofs.GapLaws.{tag_le, gap_above, gap_pos, gap_mono}
use Rattle.radix_tree.specs.Split.{last_clear, split}
use Rattle.radix_tree.proofs.LastClear.{LastClear, last_clear_is, last_clear_same}

-- the same split by one number for each position: the last one with 0 where the numbers at the ends differ first
unfoldable pub split_by : (ℕ → ℕ) → ℕ → ℕ → ℕ
split_by t a b = last_clear t (differing TAG_WIDTH (t a) (t b) - 1) b

module _ (keys : List Key) (ok : IsLawful keys) where
  -- the split by the tags is the split by codes, or by positions where the codes are equal
  pub split_is : (a b : ℕ) → a < b → b < length keys → split keys a b ≡ split_by (tag keys) a b
  unfolding split split_by
  split_is a b lt h =
      let top : ℕ = gap keys a b in
      cond_both (code_at keys a == code_at keys b) (last_clear (λ p. p) (differing POSITION_WIDTH a b - 1) b)
      (last_clear (code_at keys) (differing WIDTH (code_at keys a) (code_at keys b) - 1) b)
      (λ z. z ≡ last_clear (tag keys) (top - 1) b)
      (λ e. let same : top ≡ differing POSITION_WIDTH a b = gap_same_code keys ok a b (omega arith) h
      (eqb-true _ _ e) in
      rw same (last_clear_same (λ p. p) (tag keys) (differing POSITION_WIDTH a b - 1)
      (differing POSITION_WIDTH a b - 1) b
      (λ p le. sym
      (tag_low keys ok p (differing POSITION_WIDTH a b - 1)
      (omega (arith, gap_pos keys ok a b lt h, differing_le POSITION_WIDTH a b))))))
      (λ e. let ne = eqb-false _ _ e in
      let d : ℕ = differing WIDTH (code_at keys a) (code_at keys b) in
      let other : top ≡ POSITION_WIDTH + d = gap_other_code keys ok a b (omega arith) h ne in
      let pos : 0 < d = differing_pos WIDTH (code_at keys a) (code_at keys b) (ok.narrow a (omega arith))
      (ok.narrow b h) ne in
      rw other (last_clear_same (code_at keys) (tag keys) (d - 1) (POSITION_WIDTH + d - 1) b
      (λ p le. let e1 : POSITION_WIDTH + d - 1 - POSITION_WIDTH ≡ d - 1 = omega arith in
      sym (tag_high keys ok p (POSITION_WIDTH + d - 1) (omega arith) (omega arith)
      ∙ ap (bit_at (code_at keys p)) e1))))

  -- what the split of [a, b] says; m is the highest bit in which the ends differ
  pub record Parted (a b s m : ℕ) : Type 0 where
    pub is_gap : gap keys a b ≡ suc m
    pub low : a ≤ s
    pub high : s < b
    pub left_same : tag keys a / 2 ^ m ≡ tag keys s / 2 ^ m
    pub right_same : tag keys (suc s) / 2 ^ m ≡ tag keys b / 2 ^ m
    pub next : tag keys b / 2 ^ m ≡ suc (tag keys a / 2 ^ m)

  -- where the last clear bit is found, the range is parted there
  parted_at : (a b s m : ℕ) → a < b → b < length keys → gap keys a b ≡ suc m → LastClear (tag keys) m a b s →
      bit_at (tag keys a) m ≡ 0 → tag keys b / 2 ^ m ≡ suc (tag keys a / 2 ^ m) → Parted a b s m
  parted_at a b s m lt h is_gap l clear next =
      let p = pow_pos m in
      let high : s < b = elim (cases_eq s b) [
        | inr ne ↦ omega (arith, l.high)
        | inl e ↦ absurd (let c : bit_at (tag keys b) m ≡ 0 = rw e at l.clear in omega (arith, next, clear, c))
      ] in
      let lo = div_mono (tag keys a) (tag keys s) (2 ^ m) p (tag_le keys ok a s l.low (omega arith)) in
      let mid = div_mono (tag keys s) (tag keys (suc s)) (2 ^ m) p
      (tag_le keys ok s (suc s) (omega arith) (omega arith)) in
      let hi = div_mono (tag keys (suc s)) (tag keys b) (2 ^ m) p (tag_le keys ok (suc s) b (omega arith) h) in
      let after = l.set_after (suc s) (omega arith) (omega arith) in
      let at_s : tag keys a / 2 ^ m ≡ tag keys s / 2 ^ m = omega (arith, l.clear, clear, next, lo, mid, hi) in
      record {
        is_gap = is_gap;
        low = l.low;
        high = high;
        left_same = at_s;
        right_same = omega (arith, after, clear, next, at_s, mid, hi);
        next = next;
      }

  -- so the split parts a range
  pub parted : (a b : ℕ) → a < b → b < length keys → Parted a b (split_by (tag keys) a b) (gap keys a b - 1)
  unfolding split_by
  parted a b lt h =
      let m : ℕ = gap keys a b - 1 in
      let is_gap : gap keys a b ≡ suc m = omega (arith, gap_pos keys ok a b lt h) in
      let above = gap_above keys ok a b (suc m) (omega arith) h (omega arith) in
      let differ = differs_at TAG_WIDTH (tag keys a) (tag keys b) m is_gap in
      let up = div_mono (tag keys a) (tag keys b) (2 ^ m) (pow_pos m) (tag_le keys ok a b (omega arith) h) in
      let clear : bit_at (tag keys a) m ≡ 0 = omega (
        arith,
        shift_step (tag keys a) m,
        shift_step (tag keys b) m,
        bit_at-lt (tag keys a) m,
        bit_at-lt (tag keys b) m,
      ) in
      let next : tag keys b / 2 ^ m ≡ suc (tag keys a / 2 ^ m) =
      omega (
        arith,
        shift_step (tag keys a) m,
        shift_step (tag keys b) m,
        bit_at-lt (tag keys a) m,
        bit_at-lt (tag keys b) m,
      ) in
      parted_at a b (last_clear (tag keys) m b) m lt h is_gap (last_clear_is (tag keys) m a b (omega arith) clear)
      clear next

  -- the laws of a split: it lies in [a, b - 1]; the gap shrinks to each child, and between the two it is the range's
  pub record IsSplit (a b s : ℕ) : Type 0 where
    pub low : a ≤ s
    pub high : s < b
    pub left_less : gap keys a s < gap keys a b
    pub right_less : gap keys (suc s) b < gap keys a b
    pub middle : gap keys s (suc s) ≡ gap keys a b

  -- every split has them
  pub split_laws : (a b s : ℕ) → a < b → b < length keys → split keys a b ≡ s → IsSplit a b s
  split_laws a b s lt h e =
      let m : ℕ = gap keys a b - 1 in
      let d = subst (λ s. Parted a b s m) (sym (split_is a b lt h) ∙ e) (parted a b lt h) in
      record {
        low = d.low;
        high = d.high;
        left_less = omega (arith, d.is_gap, differing_least TAG_WIDTH (tag keys a) (tag keys s) m d.left_same);
        right_less = omega (arith, d.is_gap, differing_least TAG_WIDTH (tag keys (suc s)) (tag keys b) m d.right_same);
        middle = elim (cases_lt m (gap keys s (suc s))) [
          | inl lt' ↦ omega (
            arith,
            d.is_gap,
            gap_mono keys ok a s (suc s) b d.low (omega arith) (omega (arith, d.high)) h,
          )
          | inr le ↦ absurd (omega (
            arith,
            d.left_same,
            d.right_same,
            d.next,
            gap_above keys ok s (suc s) m (omega (arith, d.high)) (omega (arith, d.high)) le,
          ))
        ];
      }

  -- the split is the only position up to which the gap to the first is smaller than the range's
  pub split_unique : (a b s : ℕ) → a < b → b < length keys → a ≤ s → s < length keys → gap keys a s < gap keys a b →
      (suc s < length keys → gap keys a b ≤ gap keys a (suc s)) → split keys a b ≡ s
  split_unique a b s lt h low inside near far =
      let q = split_laws a b (split keys a b) lt h refl in
      elim (cases_order (split keys a b) s) [
        | inl e ↦ e
        | inr (inl before) ↦
            absurd (omega (
              arith,
              q.middle,
              gap_mono keys ok a (split keys a b) (suc (split keys a b)) s q.low (omega arith) before inside,
            ))
        | inr (inr after) ↦
            absurd (omega (
              arith,
              q.left_less,
              q.high,
              far (omega (arith, q.high)),
              gap_mono keys ok a a (suc s) (split keys a b) (omega arith) (omega arith) after (omega (arith, q.high)),
            ))
      ]
