-- The triangles in the order of the tree, each with its box and its number, and those whose boxes meet a box.
use Rattle.std.specs.Prelude.{ℕ, List, Bool, map, filter, slice_index_or, slice_range}
use Rattle.fixed_box.specs.declared.shapes.Box3.{Box3}
use Rattle.fixed_box.specs.Extent.{boxes_meet}
use Rattle.morton_key.specs.declared.keys.Key.{Key}
use Rattle.radix_tree.specs.Table.{no_box}
use Rattle.radix_tree.specs.Fit.{box_of_triangle}
use Rattle.walk_list.specs.declared.records.Leaf.{Leaf}

-- the leaf of a key
unfoldable pub leaf_of : List Box3 → Key → Leaf
leaf_of boxes k = record { fit = box_of_triangle boxes k.tri; number = k.tri }

-- the leaves of keys, in their order
unfoldable pub leaves_of : List Key → List Box3 → List Leaf
leaves_of keys boxes = map (leaf_of boxes) keys

-- the leaf that stands where no leaf is
unfoldable pub no_leaf : Leaf
no_leaf = record { fit = no_box; number = 0 }

-- the leaf at a position
unfoldable pub leaf_at : List Leaf → ℕ → Leaf
leaf_at leaves p = slice_index_or leaves p no_leaf

-- the box of the leaf meets a box
unfoldable pub leaf_meets : Box3 → Leaf → Bool
leaf_meets around l = boxes_meet l.fit around

-- the numbers of the leaves whose boxes meet a box
unfoldable pub met_of : Box3 → List Leaf → List ℕ
met_of around leaves = map (λ l. l.number) (filter (leaf_meets around) leaves)

-- of those at positions from a up to b, b left out
unfoldable pub met_between : List Leaf → Box3 → ℕ → ℕ → List ℕ
met_between leaves around a b = met_of around (slice_range leaves a b)
