-- A walk list that is over some boxes but for the triangles that moved.
use Rattle.std.specs.Prelude.{ℕ, ◌≡◌, ◌<◌, ◌⊎◌, List, length, Contains}
use Rattle.fixed_box.specs.declared.shapes.Box3.{Box3}
use Rattle.morton_key.specs.declared.keys.Key.{Key}
use Rattle.morton_key.specs.Keys.{IsLawful, tri_at}
use Rattle.radix_tree.specs.Fit.{box_of_triangle}
use Rattle.walk_list.specs.declared.records.Leaf.{Leaf}
use Rattle.walk_list.specs.Leaves.{leaf_at}

-- the leaves have the numbers of lawful keys, one for each of the boxes, and each has its triangle's box or stands at a
-- moved position
pub record AreOverBut (leaves : List Leaf) (boxes : List Box3) (moved : List ℕ) : Type 0 where
  pub keys : List Key
  pub lawful : IsLawful keys
  pub count : length boxes ≡ length keys
  pub leaf_count : length leaves ≡ length keys
  pub numbers : (p : ℕ) → p < length keys → (leaf_at leaves p).number ≡ tri_at keys p
  pub fits : (p : ℕ) → p < length keys →
      Contains moved p ⊎ ((leaf_at leaves p).fit ≡ box_of_triangle boxes (tri_at keys p))
