use Rattle.std.proofs.Common.{◌≡◌, List, length, ℕ, suc, ◌-◌, ◌<◌, ◌≤◌, refl, sym, ◌∙◌, arith}
use Rattle.morton_key.specs.declared.keys.Key.{Key}
use Rattle.morton_key.specs.Keys.{IsLawful}
use Rattle.morton_key.proofs.Tags.{gap}
use Rattle.radix_tree.specs.Split.{split}
use Rattle.radix_tree.specs.Ranges.{IsRange}
use Rattle.radix_tree.specs.Ranges.IsRange.{whole, left, right}
use Rattle.radix_tree.proofs.SplitLaws.{split_laws}

module _ (keys : List Key) (ok : IsLawful keys) where
  -- what stands beside a range of the tree differs from it higher up than its own ends do
  pub record RangeLaws (a b : ℕ) : Type 0 where
    pub order : a ≤ b
    pub within : b < length keys
    pub before : 0 < a → gap keys a b < gap keys (a - 1) a
    pub after : suc b < length keys → gap keys a b < gap keys b (suc b)

  -- what stands beside a range differs from it higher up than its ends do
  pub range_laws : {a b : ℕ} → IsRange keys a b → RangeLaws a b
  range_laws (whole e) = record {
    order = omega arith;
    within = omega arith;
    before = λ h. absurd (omega arith);
    after = λ h. absurd (omega arith);
  }
  range_laws (left {a = a} {b = b} {s = s} r lt e) =
      let p = range_laws r in
      let q = split_laws keys ok a b s lt p.within e in
      record {
        order = q.low;
        within = omega (arith, p.within, q.high);
        before = λ h. omega (arith, q.left_less, p.before h);
        after = λ h. omega (arith, q.left_less, q.middle);
      }
  range_laws (right {a = a} {b = b} {s = s} r lt e) =
      let p = range_laws r in
      let q = split_laws keys ok a b s lt p.within e in
      record {
        order = omega (arith, q.high);
        within = p.within;
        before = λ h. let e1 : suc s - 1 ≡ s = omega arith in rw e1 (omega (arith, q.right_less, q.middle));
        after = λ h. omega (arith, q.right_less, p.after h);
      }

  -- Apetrei's law: which neighbour names the parent
  pub data Parent (a b : ℕ) : Type 0 where
    left_child : {e : ℕ} → IsRange keys a e → a < e → split keys a e ≡ b → suc b < length keys →
        (0 < a → gap keys b (suc b) < gap keys (a - 1) a) → Parent a b
    right_child : {p : ℕ} → IsRange keys p b → p < b → split keys p b ≡ a - 1 → 0 < a →
        (suc b < length keys → gap keys (a - 1) a < gap keys b (suc b)) → Parent a b

  -- so the nearer neighbour names the parent
  pub parent_law : {a b : ℕ} → IsRange keys a b → ((a ≡ 0 → suc b ≡ length keys → ⊥)) → Parent a b
  parent_law (whole e) not_whole = absurd (not_whole refl e)
  parent_law (left {a = a} {b = b} {s = s} r lt e) not_whole =
      let p = range_laws r in
      let q = split_laws keys ok a b s lt p.within e in
      left_child r lt e (omega (arith, q.high, p.within)) (λ h. omega (arith, q.middle, p.before h))
  parent_law (right {a = a} {b = b} {s = s} r lt e) not_whole =
      let p = range_laws r in
      let q = split_laws keys ok a b s lt p.within e in
      let e1 : suc s - 1 ≡ s = omega arith in
      right_child r lt (e ∙ sym e1) (omega arith) (λ h. rw e1 (omega (arith, q.middle, p.after h)))
