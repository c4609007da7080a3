-- How far along the way a walk still has to look. No public clause cites this module.
use Rattle.std.specs.Prelude.{ℕ, ◌≡◌, ◌<◌, ◌≤◌, ◌⊎◌, ℤ, pos, ◌+ℤ◌, ◌*ℤ◌, ◌<ℤ◌, ◌≤ℤ◌, List, length, Option, None, Some}
use Rattle.fixed_box.specs.declared.shapes.Tri.{Tri}
use Rattle.fixed_box.specs.World.{BoxInWorld, TriInWorld}
use Rattle.fixed_box.specs.Extent.{tri_box}
use Rattle.segment_hit.specs.declared.fraction.Frac.{Frac}
use Rattle.traversal.specs.Nearest.{triangle_of}
use Rattle.segment_hit.specs.declared.line.Passage.{Passage}
use Rattle.walk_list.specs.declared.records.Leaf.{Leaf}
use Rattle.walk_list.specs.Leaves.{leaf_at}

-- the hit is from 0 to 1 of the way, and what is entered behind that number is entered behind it
pub record IsReach (whole : ℤ) (h : ℕ × Frac) (most : ℤ) : Type 0 where
  pub begun : pos 0 ≤ℤ h.1.num
  pub ended : h.1.num ≤ℤ h.1.den
  pub floor : (h.1.num *ℤ whole) <ℤ ((most +ℤ pos 1) *ℤ h.1.den)

-- the same of the best hit so far; where there is none, all of the way
abbrev pub IsLimit : ℤ → Option (ℕ × Frac) → ℤ → Type 0
IsLimit whole None most = whole ≤ℤ most
IsLimit whole (Some h) most = IsReach whole h most

-- a box is missed, or entered behind that number
abbrev pub IsShut : Passage → ℤ → Type 0
IsShut g most = (g.leave.at <ℤ g.enter.at) ⊎ (most <ℤ g.enter.at)

-- the triangle of that number stands at a position from a up to b, b left out
abbrev pub StandsFrom : List Leaf → ℕ → ℕ → ℕ → Type 0
StandsFrom leaves a b number = (i : ℕ) × (a ≤ i) × (i < b) × ((leaf_at leaves i).number ≡ number)

-- the leaf is one of the triangles, with its box
pub record IsLeafOf (tris : List Tri) (l : Leaf) : Type 0 where
  pub from_one : 0 < l.number
  pub to_count : l.number ≤ length tris
  pub fit : l.fit ≡ tri_box (triangle_of tris l.number)
  pub world : BoxInWorld l.fit

-- all triangles are in the world, and the leaves are some of them
pub record IsScene (leaves : List Leaf) (tris : List Tri) : Type 0 where
  pub world : (n : ℕ) → 0 < n → n ≤ length tris → TriInWorld (triangle_of tris n)
  pub each : (p : ℕ) → p < length leaves → IsLeafOf tris (leaf_at leaves p)
