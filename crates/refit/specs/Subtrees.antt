-- Which nodes a subtree has, which the crate's own recursion cites. No public clause cites this module.
use Rattle.std.specs.Prelude.{ℕ, List}
use Rattle.morton_key.specs.declared.keys.Key.{Key}
use Rattle.radix_tree.specs.declared.nodes.Child.{Child}
use Rattle.radix_tree.specs.declared.nodes.Child.TheVariants.{Leaf, Inner}
use Rattle.radix_tree.specs.Ranges.{IsNode}
use Rattle.radix_tree.specs.Filling.{IsBelow}

-- k is the number of a node of the child's subtree: a leaf has none
abbrev pub IsUnder : List Key → Child → ℕ → Type 0
IsUnder keys (Leaf p) k = ⊥
IsUnder keys (Inner i) k = (a : ℕ) × (b : ℕ) × IsNode keys i a b × IsBelow i a b k
