-- Two tables over the same keys differ in their boxes alone.
use Rattle.std.proofs.Common.{◌≡◌, ℕ, ◌<◌, sym, ap, ◌∙◌, arith, subst, length}
use Rattle.radix_tree.specs.Split.{split}
use Rattle.radix_tree.specs.Ranges.{IsNode}
use Rattle.radix_tree.specs.Table.{Contents, node_at, IsTable}
use Rattle.radix_tree.proofs.NumberLaws.{one_range}
use Rattle.refit.specs.Shapes.{IsSameButForFit, KeepsShape}

module _ (old new : Contents) (before : IsTable old) (after : IsTable new) (keys : new.keys ≡ old.keys) where
  -- the nodes of a number have one range, and so one split
  same_node : (k : ℕ) → k < length old.nodes → k < length new.nodes →
      IsSameButForFit (node_at old.nodes k) (node_at new.nodes k)
  same_node k here there =
      let x = node_at old.nodes k in
      let y = node_at new.nodes k in
      let range : IsNode old.keys k y.first y.last = subst (λ ks. IsNode ks k y.first y.last) keys
      (after.each k there).range in
      let same = one_range old.keys before.lawful range (before.each k here).range in
      record {
        first = same.0;
        last = same.1;
        split = (after.each k there).part
            ∙ (ap (λ ks. split ks y.first y.last) keys
            ∙ (ap (λ a. split old.keys a y.last) same.0
            ∙ (ap (λ b. split old.keys x.first b) same.1
            ∙ sym (before.each k here).part)));
      }

  -- a table is as long as its keys say
  same_count : length new.nodes ≡ length old.nodes
  same_count = omega (arith, before.count, after.count, ap length keys)

  -- so tables over the same keys have one shape
  pub same_shape : KeepsShape old new
  same_shape = record {
    keys = keys;
    count = same_count;
    each = λ k lt. same_node k lt (omega (arith, same_count));
  }
