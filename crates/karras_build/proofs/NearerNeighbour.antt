use Rattle.std.proofs.Common.{◌≡◌, ℕ, suc, ◌+◌, ◌-◌, ◌<◌, ◌≤◌, sym, arith, inl, inr, subst, List, length}
use Rattle.std.proofs.lemmas.Bool.{cases_lt}
use Rattle.morton_key.specs.declared.keys.Key.{Key}
use Rattle.morton_key.specs.Keys.{IsLawful}
use Rattle.morton_key.specs.Measure.{measure}
use Rattle.morton_key.proofs.KeyLaws.{measure_gap}
use Rattle.radix_tree.specs.Ranges.{IsNode}
use Rattle.radix_tree.proofs.NeighbourLaws.{is_first, is_last, neighbours}
use Rattle.karras_build.specs.declared.ways.Way.TheVariants.{Up, Down}
use Rattle.karras_build.specs.Reaching.{Reaches}

module _ (keys : List Key) (ok : IsLawful keys) where
  -- what a number shares with its two neighbours, of which it has both
  pub record Neighbours (a before after : ℕ) : Type 0 where
    pub inner : 0 < a
    pub inside : suc a < length keys
    pub is_before : before ≡ measure keys (a - 1) a
    pub is_after : after ≡ measure keys a (suc a)

  -- two measures that were taken are those
  pub neighbours_of : (a before after : ℕ) → 0 < a → a + 1 < length keys → before ≡ measure keys (a - 1) a →
      after ≡ measure keys a (a + 1) → Neighbours a before after
  neighbours_of a before after inner inside p q =
      let next : a + 1 ≡ suc a = omega arith in
      record {
        inner = inner;
        inside = omega arith;
        is_before = p;
        is_after = subst (λ z. after ≡ measure keys a z) next q;
      }

  -- it never shares as much with the one as with the other
  pub other_is_nearer : (a before after : ℕ) → Neighbours a before after → after ≤ before → after < before
  other_is_nearer a before after x le = omega (
    arith,
    x.is_before,
    x.is_after,
    neighbours keys ok a x.inner x.inside,
    measure_gap keys ok (a - 1) a (omega (arith, x.inside)) (omega (arith, x.inside)),
    measure_gap keys ok a (suc a) (omega (arith, x.inside)) x.inside,
  )

  -- where it shares more with the next position it is the first of its range
  pub up_found : (a before after reach : ℕ) → Neighbours a before after → before < after → 0 < reach →
      Reaches keys a Up reach before → (Reaches keys a Up (reach + 1) before → ⊥) → IsNode keys a a (a + reach)
  up_found a before after reach x turn some near far =
      let gap_before = measure_gap keys ok (a - 1) a (omega (arith, x.inside)) (omega (arith, x.inside)) in
      let next : a + (reach + 1) ≡ suc (a + reach) = omega arith in
      let ends : suc (a + reach) < length keys → measure keys a (suc (a + reach)) ≤ before = λ more.
      elim (cases_lt before (measure keys a (suc (a + reach)))) [
        | inr le ↦ le
        | inl lt ↦ absurd (far (omega arith, subst (λ z. before < measure keys a z) (sym next) lt))
      ] in
      is_first keys ok a (a + reach) (omega arith) near.0 (λ z. absurd (omega (arith, x.inner)))
      (λ _. omega (
        arith,
        gap_before,
        x.is_before,
        near.1,
        measure_gap keys ok a (a + reach) (omega (arith, x.inside))
            near.0,
      ))
      (λ _ more. omega (
        arith,
        gap_before,
        x.is_before,
        measure_gap keys ok a (suc (a + reach)) (omega arith) more,
        ends more,
      ))

  -- and else the last
  pub down_found : (a before after reach : ℕ) → Neighbours a before after → after ≤ before → 0 < reach →
      Reaches keys a Down reach after → (Reaches keys a Down (reach + 1) after → ⊥) → IsNode keys a (a - reach) a
  down_found a before after reach x turn some near far =
      let gap_after = measure_gap keys ok a (suc a) (omega (arith, x.inside)) x.inside in
      let next : a - (reach + 1) ≡ a - reach - 1 = omega arith in
      let ends : 0 < a - reach → measure keys (a - reach - 1) a ≤ after = λ more.
      elim (cases_lt after (measure keys (a - reach - 1) a)) [
        | inr le ↦ le
        | inl lt ↦ absurd (far (omega arith, subst (λ z. after < measure keys z a) (sym next) lt))
      ] in
      is_last keys ok (a - reach) a (omega (arith, x.inner)) x.inside
      (omega (
        arith,
        gap_after,
        x.is_after,
        near.1,
        measure_gap keys ok (a - reach) a (omega (arith, x.inside))
            (omega (arith, x.inside)),
      ))
      (λ more. omega (
        arith,
        gap_after,
        x.is_after,
        measure_gap keys ok (a - reach - 1) a (omega (arith, x.inside))
            (omega (arith, x.inside)),
        ends more,
      ))
