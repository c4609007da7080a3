use Rattle.std.proofs.Common.{◌≡◌, ℕ, suc, zero, ◌+◌, ◌-◌, ◌<◌, ◌≤◌, max, refl, sym, ap, ◌∙◌, arith, List, length}
use Rattle.std.specs.Prelude.{◌==◌}
use Rattle.std.proofs.lemmas.Bool.{cond_both}
use Rattle.morton_key.specs.declared.keys.Key.{Key}
use Rattle.morton_key.specs.Keys.{IsLawful}
use Rattle.morton_key.proofs.Tags.{TAG_WIDTH}
use Rattle.morton_key.proofs.GapLaws.{gap_most}
use Rattle.radix_tree.specs.Split.{split}
use Rattle.radix_tree.specs.Shape.{grown, shape_in, height_of}
use Rattle.radix_tree.specs.Shape.Shape.{leaf, fork}
use Rattle.radix_tree.proofs.SplitLaws.{split_laws}
use Rattle.radix_tree.proofs.ShapeLaws.{grown-fork, grown_same, height_le}

-- one position has no inner node
pub height_of_one : (keys : List Key) (a : ℕ) → height_of (shape_in keys a a) ≡ 0
unfolding height_of shape_in grown
height_of_one keys a = let none : a - a ≡ 0 = omega arith in ap (λ f. height_of (grown keys f a a)) none

-- a tree is no higher than it is let grow
grown_height : (keys : List Key) (f a b : ℕ) → height_of (grown keys f a b) ≤ f
unfolding height_of grown
grown_height keys zero a b = omega arith
grown_height keys (suc f) a b =
    cond_both (a == b) (leaf a)
    (fork a b (split keys a b) (grown keys f a (split keys a b)) (grown keys f (suc (split keys a b)) b))
    (λ x. height_of x ≤ suc f)
    (λ e. omega arith)
    (λ e. omega (arith, grown_height keys f a (split keys a b), grown_height keys f (suc (split keys a b)) b))

-- so it is at least one leaf larger than it is high
pub height_le_span : (keys : List Key) (a b : ℕ) → height_of (shape_in keys a b) ≤ b - a
unfolding shape_in
height_le_span keys a b = grown_height keys (b - a) a b

module _ (keys : List Key) (ok : IsLawful keys) where
  -- a range of two or more is one node higher than the higher of its parts
  height_at_split : (a b : ℕ) → a < b → b < length keys →
      height_of (shape_in keys a b) ≡ suc
      (max (height_of (shape_in keys a (split keys a b))) (height_of (shape_in keys (suc (split keys a b)) b)))
  unfolding height_of shape_in
  height_at_split a b lt h =
      let f : ℕ = b - a - 1 in
      let s : ℕ = split keys a b in
      let more : b - a ≡ suc f = omega arith in
      let q = split_laws keys ok a b s lt h refl in
      let left = grown_same keys ok f (s - a) a s q.low (omega (arith, q.high)) (omega (arith, q.high))
      (omega arith) in
      let right = grown_same keys ok f (b - suc s) (suc s) b q.high h (omega (arith, q.low)) (omega arith) in
      ap (λ g. height_of (grown keys g a b)) more
      ∙ (ap height_of (grown-fork keys ok f a b lt)
      ∙ (ap (λ x. suc (max (height_of x) (height_of (grown keys f (suc s) b)))) left
      ∙ ap (λ x. suc (max (height_of (grown keys (s - a) a s)) (height_of x))) right))

  -- an inner node is one higher than its higher child
  pub height_of_fork : (a b s : ℕ) → a < b → b < length keys → s ≡ split keys a b →
      height_of (shape_in keys a b) ≡ 1 + max (height_of (shape_in keys a s)) (height_of (shape_in keys (s + 1) b))
  height_of_fork a b s lt h e =
      let next : suc s ≡ s + 1 = omega arith in
      let one : suc (max (height_of (shape_in keys a s)) (height_of (shape_in keys (s + 1) b))) ≡ 1 + max
      (height_of (shape_in keys a s)) (height_of (shape_in keys (s + 1) b)) = omega arith in
      height_at_split a b lt h
      ∙ (ap (λ z. suc (max (height_of (shape_in keys a z)) (height_of (shape_in keys (suc z) b)))) (sym e)
      ∙ (ap (λ z. suc (max (height_of (shape_in keys a s)) (height_of (shape_in keys z b)))) next ∙ one))

  -- and no tree is higher than a tag is wide
  pub height_most : (a b : ℕ) → a ≤ b → b < length keys → height_of (shape_in keys a b) ≤ TAG_WIDTH
  unfolding shape_in
  height_most a b le h = omega (arith, height_le keys ok (b - a) a b le h, gap_most keys ok a b)
