-- What of a tree stands where triangles moved.
use Rattle.std.specs.Prelude.{ℕ, ◌≡◌, ◌<◌, ◌≤◌, ◌⊎◌, ◌++◌, List, All}
use Rattle.std.specs.List.Sorted.{IsNonDecreasing}
use Rattle.fixed_box.specs.declared.shapes.Box3.{Box3}
use Rattle.morton_key.specs.declared.keys.Key.{Key}
use Rattle.morton_key.specs.Keys.{tri_at}
use Rattle.radix_tree.specs.declared.nodes.Node.{Node}
use Rattle.radix_tree.specs.declared.nodes.Child.{Child}
use Rattle.radix_tree.specs.Ranges.{IsNode}
use Rattle.radix_tree.specs.Fit.{box_of_triangle}
use Rattle.radix_tree.specs.Filling.{HasRow}
use Rattle.refit.specs.Subtrees.{IsUnder}

-- the triangle at a position has the box that it had
abbrev pub IsStill : List Key → List Box3 → List Box3 → ℕ → Type 0
IsStill keys before boxes p = box_of_triangle before (tri_at keys p) ≡ box_of_triangle boxes (tri_at keys p)

-- none of the positions is from a to b
abbrev pub AreOutside : List ℕ → ℕ → ℕ → Type 0
AreOutside moved a b = All (λ p. (p < a) ⊎ (b < p)) moved

-- the nodes of a child's subtree have their rows, but for those with a moved position in their range
abbrev pub AreFittedBut : List ℕ → List Key → List Box3 → List Node → Child → Type 0
AreFittedBut moved keys boxes nodes child = (k a b : ℕ) → IsUnder keys child k → IsNode keys k a b →
    AreOutside moved a b → HasRow keys boxes nodes k

-- positions parted into those up to a split and those behind it
pub record AreParted (moved : List ℕ) (s : ℕ) (near far : List ℕ) : Type 0 where
  pub whole : near ++ far ≡ moved
  pub upto : All (λ p. p ≤ s) near
  pub behind : All (λ p. s < p) far
  pub near_rises : IsNonDecreasing near
  pub far_rises : IsNonDecreasing far
