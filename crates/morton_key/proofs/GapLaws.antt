use Rattle.std.proofs.Common.{◌≡◌, ℕ, ◌/◌, ◌^◌, ◌<◌, ◌≤◌, refl, sym, ◌∙◌, arith, inl, inr, List, length}
use Rattle.std.proofs.lemmas.Nat.{pow_pos}
use Rattle.std.proofs.lemmas.Bool.{cases_eq}
use Rattle.morton_key.specs.declared.keys.Key.{Key}
use Rattle.morton_key.specs.Keys.{IsLawful}
use Rattle.morton_key.specs.Measure.{measure}
use Rattle.morton_key.proofs.Tags.{TAG_WIDTH, tag, gap}
use Rattle.morton_key.proofs.KeyLaws.{tag_rises, tag_small, measure_gap}
use Rattle.morton_key.proofs.BitLaws.{same_above, differing_le, differing_least, div_mono, div_small, same_from}

module _ (keys : List Key) (ok : IsLawful keys) where
  -- a later tag is not smaller
  pub tag_le : (i j : ℕ) → i ≤ j → j < length keys → tag keys i ≤ tag keys j
  tag_le i j le h = elim (cases_eq i j) [
    | inl e ↦ rw e (omega arith)
    | inr ne ↦ omega (arith, tag_rises keys ok i j (omega arith) h)
  ]

  -- from the gap on two tags are equal
  pub gap_above : (a b m : ℕ) → a < length keys → b < length keys → gap keys a b ≤ m →
      tag keys a / 2 ^ m ≡ tag keys b / 2 ^ m
  gap_above a b m p q h =
      same_from (tag keys a) (tag keys b) (gap keys a b) m h
      (same_above TAG_WIDTH (tag keys a) (tag keys b) (div_small (tag keys a) TAG_WIDTH (tag_small keys ok a p)
      ∙ sym (div_small (tag keys b) TAG_WIDTH (tag_small keys ok b q))))

  -- two positions differ somewhere
  pub gap_pos : (a b : ℕ) → a < b → b < length keys → 0 < gap keys a b
  gap_pos a b lt h = elim (cases_eq (gap keys a b) 0) [
    | inr ne ↦ omega arith
    | inl e ↦ absurd (omega (arith, gap_above a b 0 (omega arith) h (omega arith), tag_rises keys ok a b lt h))
  ]

  -- and one position does not differ from itself
  pub gap_self : (a : ℕ) → gap keys a a ≡ 0
  gap_self a = omega (arith, differing_least TAG_WIDTH (tag keys a) (tag keys a) 0 refl)

  -- no gap is above the width of a tag
  pub gap_most : (a b : ℕ) → gap keys a b ≤ TAG_WIDTH
  gap_most a b = differing_le TAG_WIDTH (tag keys a) (tag keys b)

  -- no range has a greater gap than one that it lies in
  pub gap_mono : (a c d b : ℕ) → a ≤ c → c ≤ d → d ≤ b → b < length keys → gap keys c d ≤ gap keys a b
  gap_mono a c d b ac cd db h =
      let m : ℕ = gap keys a b in
      let whole_same = gap_above a b m (omega arith) h (omega arith) in
      let p = pow_pos m in
      let lo = div_mono (tag keys a) (tag keys c) (2 ^ m) p (tag_le a c ac (omega arith)) in
      let mid = div_mono (tag keys c) (tag keys d) (2 ^ m) p (tag_le c d cd (omega arith)) in
      let hi = div_mono (tag keys d) (tag keys b) (2 ^ m) p (tag_le d b db h) in
      differing_least TAG_WIDTH (tag keys c) (tag keys d) m (omega arith)

  -- the measure of a position and itself is the greatest
  pub measure_self : (a : ℕ) → a < length keys → measure keys a a ≡ TAG_WIDTH
  measure_self a h = omega (arith, measure_gap keys ok a a h h, gap_self a)

  -- and no other is
  pub measure_below : (a b : ℕ) → a < b → b < length keys → measure keys a b < TAG_WIDTH
  measure_below a b lt h = omega (arith, measure_gap keys ok a b (omega arith) h, gap_pos a b lt h)
