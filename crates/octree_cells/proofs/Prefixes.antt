-- When two keys have one prefix of a level: exactly where they share that level.
use Rattle.std.proofs.Common.{◌≡◌, ◌≢◌, ℕ, ◌+◌, ◌-◌, ◌*◌, ◌/◌, ◌^◌, ◌<◌, ◌≤◌, sym, ap, ◌∙◌, arith, inl, inr, List, length}
use Rattle.std.proofs.lemmas.Nat.{pow_pos, shr-shr}
use Rattle.std.proofs.lemmas.Bool.{cases_eq}
use Rattle.morton_key.specs.declared.keys.Key.{Key}
use Rattle.morton_key.specs.declared.keys.TheConstants.{LEVELS, WIDTH, POSITION_WIDTH}
use Rattle.morton_key.specs.Keys.{code_at, IsLawful}
use Rattle.morton_key.proofs.Tags.{TAG_WIDTH, tag, gap}
use Rattle.morton_key.proofs.BitLaws.{div_mono, differing_least}
use Rattle.morton_key.proofs.KeyLaws.{code_le, measure_gap}
use Rattle.morton_key.proofs.GapLaws.{gap_above}
use Rattle.octree_cells.specs.Cells.{prefix_of, prefix_at}
use Rattle.octree_cells.specs.Levels.{shared_level}

module _ (keys : List Key) (ok : IsLawful keys) (level : ℕ) (deep : level ≤ LEVELS) where
  -- the prefix of a code stands at the head of its tag
  tag_prefix : (i : ℕ) → i < length keys → tag keys i / 2 ^ (TAG_WIDTH - 3 * level) ≡ prefix_at keys level i
  unfolding tag prefix_at prefix_of
  tag_prefix i h =
      let widths : POSITION_WIDTH + (WIDTH - 3 * level) ≡ TAG_WIDTH - 3 * level = omega arith in
      let code : tag keys i / 2 ^ POSITION_WIDTH ≡ code_at keys i = omega (arith, ok.few) in
      ap (λ k. tag keys i / 2 ^ k) (sym widths)
      ∙ (sym (shr-shr (tag keys i) POSITION_WIDTH (WIDTH - 3 * level))
      ∙ ap (λ x. x / 2 ^ (WIDTH - 3 * level)) code)

  -- keys with one prefix of a level share the level
  pub shared_from_prefix : (i j : ℕ) → i < length keys → j < length keys →
      prefix_at keys level i ≡ prefix_at keys level j → level ≤ shared_level keys i j
  unfolding shared_level
  shared_from_prefix i j p q e =
      let near = differing_least TAG_WIDTH (tag keys i) (tag keys j) (TAG_WIDTH - 3 * level)
      (tag_prefix i p ∙ (e ∙ sym (tag_prefix j q))) in
      omega (arith, near, measure_gap keys ok i j p q)

  -- and the other way
  pub prefix_from_shared : (i j : ℕ) → i < length keys → j < length keys → level ≤ shared_level keys i j →
      prefix_at keys level i ≡ prefix_at keys level j
  unfolding shared_level
  prefix_from_shared i j p q le =
      sym (tag_prefix i p)
      ∙ (gap_above keys ok i j (TAG_WIDTH - 3 * level) p q (omega (arith, le, measure_gap keys ok i j p q))
      ∙ tag_prefix j q)

  -- so keys that do not share it have two
  pub prefixes_differ : (i j : ℕ) → i < length keys → j < length keys → shared_level keys i j < level →
      prefix_at keys level i ≢ prefix_at keys level j
  prefixes_differ i j p q lt e = omega (arith, shared_from_prefix i j p q e)

  -- a prefix does not fall
  pub prefix_le : (i j : ℕ) → i ≤ j → j < length keys → prefix_at keys level i ≤ prefix_at keys level j
  unfolding prefix_at prefix_of
  prefix_le i j le h = elim (cases_eq i j) [
    | inl e ↦ rw e (omega arith)
    | inr ne ↦ div_mono (code_at keys i) (code_at keys j) (2 ^ (WIDTH - 3 * level)) (pow_pos (WIDTH - 3 * level))
        (code_le keys ok i j (omega arith) h)
  ]

-- no two keys share more than all levels
pub shared_most : (keys : List Key) (i j : ℕ) → shared_level keys i j ≤ LEVELS
unfolding shared_level
shared_most keys i j = omega arith

-- keys that stand further apart in the tree share no more
pub shared_from_gap : (keys : List Key) → IsLawful keys → (i j k l : ℕ) → i < length keys → j < length keys →
    k < length keys → l < length keys → gap keys k l ≤ gap keys i j → shared_level keys i j ≤ shared_level keys k l
unfolding shared_level
shared_from_gap keys ok i j k l pi pj pk pl le =
    omega (arith, le, measure_gap keys ok i j pi pj, measure_gap keys ok k l pk pl)
