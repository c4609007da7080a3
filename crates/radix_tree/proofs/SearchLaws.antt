use Rattle.std.proofs.Common.{◌≡◌, ℕ, suc, ◌+◌, ◌<◌, ◌≤◌, sym, arith, subst, List, length}
use Rattle.morton_key.specs.declared.keys.Key.{Key}
use Rattle.morton_key.specs.Keys.{IsLawful}
use Rattle.morton_key.specs.Measure.{measure}
use Rattle.morton_key.proofs.KeyLaws.{measure_gap}
use Rattle.morton_key.proofs.GapLaws.{measure_self, measure_below}
use Rattle.radix_tree.specs.Split.{split}
use Rattle.radix_tree.proofs.SplitLaws.{split_unique}

-- the split is at `near` or behind it, and before `far`: the first of them shares more with the range's first position
-- than its last one does, and the second does not
pub record Surrounds (keys : List Key) (first last near far : ℕ) : Type 0 where
  pub low : first ≤ near
  pub order : near < far
  pub high : far ≤ last
  pub shares : measure keys first last < measure keys first near
  pub parts : measure keys first far ≤ measure keys first last

module _ (keys : List Key) (ok : IsLawful keys) where
  -- the last position that shares more with the first than the last does is the split
  pub split_found : (a b s : ℕ) → a < b → b < length keys → a ≤ s → s < length keys →
      measure keys a b < measure keys a s →
      (suc s < length keys → measure keys a (suc s) ≤ measure keys a b) → s ≡ split keys a b
  split_found a b s lt h low inside near far =
      let e = measure_gap keys ok a b (omega arith) h in
      sym (split_unique keys ok a b s lt h low inside (omega (arith, e, measure_gap keys ok a s (omega arith) inside))
      (λ more. omega (arith, e, measure_gap keys ok a (suc s) (omega arith) more, far more)))

  -- at first all of a range is to be searched
  pub search_begins : (a b : ℕ) → a < b → b < length keys → Surrounds keys a b a b
  search_begins a b lt h = record {
    low = omega arith;
    order = lt;
    high = omega arith;
    shares = omega (arith, measure_self keys ok a (omega arith), measure_below keys ok a b lt h);
    parts = omega arith;
  }

  -- and in the end one position is left
  pub search_ends : (a b near far : ℕ) → a < b → b < length keys → Surrounds keys a b near far → far ≤ near + 1 →
      near ≡ split keys a b
  search_ends a b near far lt h s done =
      let next : far ≡ suc near = omega (arith, s.order) in
      split_found a b near lt h s.low (omega (arith, s.order, s.high)) s.shares
      (λ more. subst (λ z. measure keys a z ≤ measure keys a b) next s.parts)
