-- Leaves that moved, and records whose boxes are good but for those with a moved leaf below.
-- No public clause cites this module.
use Rattle.std.specs.Prelude.{ℕ, ◌≡◌, ◌<◌, ◌≤◌, ◌⊎◌, List, length, slice_index, Contains}
use Rattle.fixed_box.specs.declared.shapes.Box3.{Box3}
use Rattle.fixed_box.specs.World.{BoxInWorld}
use Rattle.radix_tree.specs.Fit.{box_of_triangle}
use Rattle.walk_list.specs.declared.records.Leaf.{Leaf}
use Rattle.walk_list.specs.Leaves.{leaf_at}
use Rattle.walk_list.specs.Covering.{Bounds}
use Rattle.refit.specs.Listing.{ListsBut}

-- the leaf has the box of its number
abbrev pub IsFitTo : List Box3 → Leaf → Type 0
IsFitTo boxes l = l.fit ≡ box_of_triangle boxes l.number

-- one of the moved positions is from a up to b, b left out
abbrev pub IsMovedBetween : List ℕ → ℕ → ℕ → Type 0
IsMovedBetween moved a b = (k : ℕ) × (k < length moved) × (a ≤ slice_index moved k) × (slice_index moved k < b)

-- where no leaf from a up to b moved, the box bounds them
pub record BoundsBut (leaves : List Leaf) (moved : List ℕ) (fit : Box3) (a b : ℕ) : Type 0 where
  pub order : a < b
  pub kept : (IsMovedBetween moved a b → ⊥) → Bounds leaves fit a b

-- each leaf's box is in the world
pub record AreInWorld (leaves : List Leaf) : Type 0 where
  pub each : (p : ℕ) → p < length leaves → BoxInWorld (leaf_at leaves p).fit

-- the number of each leaf is that of a box
pub record HaveBoxes (leaves : List Leaf) (boxes : List Box3) : Type 0 where
  pub from_one : (p : ℕ) → p < length leaves → 0 < (leaf_at leaves p).number
  pub to_count : (p : ℕ) → p < length leaves → (leaf_at leaves p).number ≤ length boxes

-- of the leaves at positions below a number, those listed have not the boxes of their triangles, and the others have
-- them
abbrev pub ListsMoved : List Leaf → List Box3 → ℕ → List ℕ → Type 0
ListsMoved leaves boxes = ListsBut (λ p. IsFitTo boxes (leaf_at leaves p))

-- the leaves at the moved positions were given their boxes, and nothing else changed
pub record Moves (boxes : List Box3) (moved : List ℕ) (before after : List Leaf) : Type 0 where
  pub count : length after ≡ length before
  pub numbers : (p : ℕ) → (leaf_at after p).number ≡ (leaf_at before p).number
  pub fits : (p : ℕ) → Contains moved p → IsFitTo boxes (leaf_at after p)
  pub kept : (p : ℕ) → (leaf_at after p ≡ leaf_at before p) ⊎ Contains moved p
