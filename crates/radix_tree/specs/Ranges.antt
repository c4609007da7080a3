-- The tree over a list of keys: the ranges of positions that the recursion from the top reaches, and their numbers.
use Rattle.std.specs.Prelude.{ℕ, suc, ◌≡◌, ◌<◌, List, length}
use Rattle.morton_key.specs.declared.keys.Key.{Key}
use Rattle.radix_tree.specs.declared.nodes.Child.{Child}
use Rattle.radix_tree.specs.declared.nodes.Child.TheVariants.{Leaf, Inner}
use Rattle.radix_tree.specs.Split.{split}

-- [a, b] is a range of the tree: the whole, or up to the split of one, or from behind it
pub data IsRange (keys : List Key) : ℕ → ℕ → Type 0 where
  whole : {b : ℕ} → suc b ≡ length keys → IsRange keys 0 b
  left : {a b s : ℕ} → IsRange keys a b → a < b → split keys a b ≡ s → IsRange keys a s
  right : {a b s : ℕ} → IsRange keys a b → a < b → split keys a b ≡ s → IsRange keys (suc s) b

-- the inner node of number i has the range [a, b]: the root has number 0, and of a node with split s the left child,
-- if it is inner, has number s, and the right one s + 1
pub data IsNode (keys : List Key) : ℕ → ℕ → ℕ → Type 0 where
  root : {b : ℕ} → 0 < b → suc b ≡ length keys → IsNode keys 0 0 b
  left_of : {i a b s : ℕ} → IsNode keys i a b → split keys a b ≡ s → a < s → IsNode keys s a s
  right_of : {i a b s : ℕ} → IsNode keys i a b → split keys a b ≡ s → suc s < b → IsNode keys (suc s) (suc s) b

-- the child has the range [a, b]: a leaf that one position, an inner node by its number
abbrev pub HasRange : List Key → Child → ℕ → ℕ → Type 0
HasRange keys (Leaf p) a b = (p ≡ a) × (p ≡ b)
HasRange keys (Inner i) a b = IsNode keys i a b
