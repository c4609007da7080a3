-- The range of a node in a subtree lies in that of the subtree.
use Rattle.std.proofs.Common.{ℕ, zero, suc, ◌+◌, ◌-◌, ◌≤◌, inl, inr, refl, arith, subst, List}
use Rattle.std.proofs.lemmas.Bool.{cases_lt}
use Rattle.morton_key.specs.declared.keys.Key.{Key}
use Rattle.morton_key.specs.Keys.{IsLawful}
use Rattle.radix_tree.specs.Split.{split}
use Rattle.radix_tree.specs.Ranges.{IsNode}
use Rattle.radix_tree.specs.Filling.{IsBelow}
use Rattle.radix_tree.proofs.NumberLaws.{proper, one_range}
use Rattle.radix_tree.proofs.NodeLaws.{node_end, split_low, split_high, left_node, right_node}
use Rattle.radix_tree.proofs.FillLaws.{below_cases, none_below}

module _ (keys : List Key) (ok : IsLawful keys) (k c d : ℕ) (node : IsNode keys k c d) where
  -- where the subtree's range is no longer than a number
  nested_in : (most i a b : ℕ) → b - a ≤ most → IsNode keys i a b → IsBelow i a b k → (a ≤ c) × (d ≤ b)
  nested_in zero i a b short top below = absurd (omega (arith, short, proper keys ok top))
  nested_in (suc most) i a b short top below =
      let s = split keys a b in
      let low = split_low keys ok top in
      let high = split_high keys ok top in
      elim (below_cases i a b s k low high (node_end keys ok top) below) [
        | inl own ↦
            let same = one_range keys ok (subst (λ n. IsNode keys n c d) own node) top in
            (omega (arith, same.0), omega (arith, same.1))
        | inr (inl left) ↦ elim (cases_lt a s) [
          | inl lt ↦
              let there = nested_in most s a s (omega (arith, short, high)) (left_node keys ok top s refl lt) left in
              (there.0, omega (arith, there.1, high))
          | inr le ↦ none_below s a s k ((a ≤ c) × (d ≤ b)) (omega (arith, le, low)) (inr refl) left
        ]
        | inr (inr right) ↦ elim (cases_lt (s + 1) b) [
          | inl lt ↦
              let there = nested_in most (s + 1) (s + 1) b (omega (arith, short, low)) (right_node keys ok top s refl lt)
              right in
              (omega (arith, there.0, low), there.1)
          | inr le ↦ none_below (s + 1) (s + 1) b k ((a ≤ c) × (d ≤ b)) (omega (arith, le, high)) (inl refl) right
        ]
      ]

  -- the range of a node in a subtree lies in the subtree's
  pub nested : (i a b : ℕ) → IsNode keys i a b → IsBelow i a b k → (a ≤ c) × (d ≤ b)
  nested i a b = nested_in (b - a) i a b (omega arith)
