-- The measures of neighbouring keys fix the tree.
use Rattle.std.proofs.Common.{◌≡◌, ℕ, suc, ◌<◌, ◌≤◌, refl, sym, ◌∙◌, arith, inl, inr, List, length}
use Rattle.std.proofs.lemmas.Bool.{cases_eq}
use Rattle.morton_key.specs.declared.keys.Key.{Key}
use Rattle.morton_key.specs.Keys.{IsLawful}
use Rattle.morton_key.proofs.Tags.{gap}
use Rattle.morton_key.proofs.KeyLaws.{measure_gap}
use Rattle.morton_key.proofs.GapLaws.{gap_self, gap_mono}
use Rattle.radix_tree.specs.Split.{split}
use Rattle.radix_tree.specs.Ranges.{IsRange}
use Rattle.radix_tree.specs.Ranges.IsRange.{whole, left, right}
use Rattle.radix_tree.proofs.SplitLaws.{split_laws, split_unique}
use Rattle.radix_tree.proofs.RangeLaws.{range_laws}
use Rattle.apetrei_build.specs.Measures.{AreMeasures}

-- two lists of keys that differ alike from place to place
record AreAlike (keys other : List Key) : Type 0 where
  pub lawful : IsLawful keys
  pub other_lawful : IsLawful other
  pub count : length keys ≡ length other
  pub same : (k : ℕ) → suc k < length keys → gap keys k (suc k) ≡ gap other k (suc k)

-- so do those that have one list of measures
alike : (keys other : List Key) (measures : List ℕ) → AreMeasures keys measures → AreMeasures other measures →
    AreAlike keys other
alike keys other measures x y = let count = sym x.count ∙ y.count in record {
  lawful = x.lawful;
  other_lawful = y.lawful;
  count = count;
  same = λ k lt. omega (
    arith,
    x.each k lt,
    y.each k (omega (arith, lt, count)),
    measure_gap keys x.lawful k (suc k) (omega (arith, lt)) lt,
    measure_gap other y.lawful k (suc k) (omega (arith, lt, count)) (omega (arith, lt, count)),
  );
}

-- the other way round
turned : {keys other : List Key} → AreAlike keys other → AreAlike other keys
turned x = record {
  lawful = x.other_lawful;
  other_lawful = x.lawful;
  count = sym x.count;
  same = λ k lt. sym (x.same k (omega (arith, lt, x.count)));
}

-- a range's ends differ no more in one than in the other, since they differ as the two positions at the split do
gap_at_most : (keys other : List Key) → AreAlike keys other → (a b : ℕ) → a ≤ b → b < length keys →
    gap keys a b ≤ gap other a b
gap_at_most keys other x a b le h = elim (cases_eq a b) [
  | inl e ↦ rw e (omega (arith, gap_self keys x.lawful b))
  | inr ne ↦
      let q = split_laws keys x.lawful a b (split keys a b) (omega arith) h refl in
      omega (
        arith,
        q.middle,
        x.same (split keys a b) (omega (arith, q.high, h)),
        gap_mono other x.other_lawful a (split keys a b) (suc (split keys a b)) b q.low (omega arith)
            (omega (arith, q.high)) (omega (arith, h, x.count)),
      )
]

-- so a range is parted at one place in both
one_parting : (keys other : List Key) → AreAlike keys other → (a b : ℕ) → a < b → b < length keys →
    split other a b ≡ split keys a b
one_parting keys other x a b lt h =
    let s : ℕ = split keys a b in
    let q = split_laws keys x.lawful a b s lt h refl in
    let inside : b < length other = omega (arith, h, x.count) in
    split_unique other x.other_lawful a b s lt inside q.low (omega (arith, q.high, inside))
    (omega (
      arith,
      q.left_less,
      gap_at_most other keys (turned x) a s q.low (omega (arith, q.high, inside)),
      gap_at_most keys other x a b (omega arith) h,
    ))
    (λ more. omega (
      arith,
      q.middle,
      x.same s (omega (arith, more, x.count)),
      gap_at_most other keys (turned x) a b (omega arith) inside,
      gap_mono other x.other_lawful a s (suc s) (suc s) q.low (omega arith) (omega arith) more,
    ))

-- and the trees have the same ranges
one_range_in : (keys other : List Key) → AreAlike keys other → {a b : ℕ} → IsRange keys a b → IsRange other a b
one_range_in keys other x (whole e) = whole (e ∙ x.count)
one_range_in keys other x (left {a = a} {b = b} r lt e) = left (one_range_in keys other x r) lt
    (one_parting keys other x a b lt (range_laws keys x.lawful r).within ∙ e)
one_range_in keys other x (right {a = a} {b = b} r lt e) = right (one_range_in keys other x r) lt
    (one_parting keys other x a b lt (range_laws keys x.lawful r).within ∙ e)

-- a range of the tree of some keys is one of the tree of all keys that have these measures
pub same_range : (keys other : List Key) (measures : List ℕ) → AreMeasures keys measures → AreMeasures other measures →
    {a b : ℕ} → IsRange keys a b → IsRange other a b
same_range keys other measures x y r = one_range_in keys other (alike keys other measures x y) r
