use Rattle.std.proofs.Common.{◌≡◌, ℕ, suc, zero, ◌+◌, ◌<◌, ◌≤◌, refl, sym, ap, ◌∙◌, arith, inl, inr, List, length}
use Rattle.std.specs.Prelude.{◌==◌}
use Rattle.std.proofs.lemmas.Bool.{cond_both, cases_eq, eqb-false, eq-eqb, ne_eqb, cond-false, cond-true}
use Rattle.morton_key.specs.declared.keys.Key.{Key}
use Rattle.morton_key.specs.Keys.{IsLawful}
use Rattle.morton_key.proofs.Tags.{gap}
use Rattle.radix_tree.specs.Split.{split}
use Rattle.radix_tree.specs.Shape.{grown, height_of}
use Rattle.radix_tree.specs.Shape.Shape.{leaf, fork}
use Rattle.radix_tree.proofs.SplitLaws.{split_laws}

module _ (keys : List Key) (ok : IsLawful keys) where
  -- a range of two or more positions is a fork
  pub grown-fork : (f a b : ℕ) → a < b →
      grown keys (suc f) a b ≡ fork a b (split keys a b) (grown keys f a (split keys a b))
      (grown keys f (suc (split keys a b)) b)
  unfolding grown
  grown-fork f a b lt = cond-false (a == b) _ _ (ne_eqb a b (omega arith))

  -- a tree is no higher than its ends differ
  pub height_le : (f a b : ℕ) → a ≤ b → b < length keys → height_of (grown keys f a b) ≤ gap keys a b
  unfolding grown height_of
  height_le zero a b le h = omega arith
  height_le (suc f) a b le h =
      cond_both (a == b) (leaf a)
      (fork a b (split keys a b) (grown keys f a (split keys a b)) (grown keys f (suc (split keys a b)) b))
      (λ x. height_of x ≤ gap keys a b)
      (λ e. omega arith)
      (λ e. let ne = eqb-false _ _ e in
      let q = split_laws keys ok a b (split keys a b) (omega arith) h refl in
      omega (
        arith,
        q.left_less,
        q.right_less,
        height_le f a (split keys a b) q.low (omega (arith, q.high)),
        height_le f (suc (split keys a b)) b q.high h,
      ))

  -- any fuel that is enough gives the same tree
  pub grown_same : (f g a b : ℕ) → a ≤ b → b < length keys → b ≤ a + f → b ≤ a + g →
      grown keys f a b ≡ grown keys g a b
  unfolding grown
  grown_same zero zero a b le h p q = refl
  grown_same zero (suc g) a b le h p q = sym (cond-true (a == b) _ _ (eq-eqb a b (omega arith)))
  grown_same (suc f) zero a b le h p q = cond-true (a == b) _ _ (eq-eqb a b (omega arith))
  grown_same (suc f) (suc g) a b le h p q = elim (cases_eq a b) [
    | inl e ↦ cond-true (a == b) _ _ (eq-eqb a b e) ∙ sym (cond-true (a == b) _ _ (eq-eqb a b e))
    | inr ne ↦
        let s : ℕ = split keys a b in
        let q' = split_laws keys ok a b s (omega arith) h refl in
        grown-fork f a b (omega arith)
        ∙ (ap (λ x. fork a b s x (grown keys f (suc s) b))
        (grown_same f g a s q'.low (omega (arith, q'.high)) (omega (arith, q'.high)) (omega (arith, q'.high))) ∙
        (ap (λ x. fork a b s (grown keys g a s) x)
        (grown_same f g (suc s) b q'.high h (omega (arith, q'.low)) (omega (arith, q'.low)))
        ∙ sym (grown-fork g a b (omega arith))))
  ]
