-- What a box query answers: the triangles whose boxes meet the box, and the work of finding them in the tree.
use Rattle.std.specs.Prelude.{ℕ, ◌+◌, ◌*◌, List, [], ◌∷◌, Bool, not, ◌&&◌, ◌||◌, if◌then◌else◌, nat_le, count_by}
use Rattle.std.specs.List.{list_all}
use Rattle.fixed_box.specs.declared.shapes.Box3.{Box3}
use Rattle.fixed_box.specs.Extent.{boxes_meet}
use Rattle.morton_key.specs.declared.keys.Key.{Key}
use Rattle.radix_tree.specs.declared.nodes.Node.{Node}
use Rattle.radix_tree.specs.Fit.{table_of}

-- the numbers, counted from a number on, of the boxes that meet a box
unfoldable pub overlaps_from : ℕ → Box3 → List Box3 → List ℕ
overlaps_from number around [] = []
overlaps_from number around (b ∷ boxes) =
    if boxes_meet b around
    then number ∷ overlaps_from (number + 1) around boxes
    else overlaps_from (number + 1) around boxes

-- the numbers, rising, of the triangles whose boxes meet a box; the first triangle has number 1
unfoldable pub overlaps_of : List Box3 → Box3 → List ℕ
overlaps_of boxes around = overlaps_from 1 around boxes

-- the upper node is the lower one, or stands above it: its range holds the lower one's, since the ranges of a tree nest
unfoldable pub is_at_or_above : Node → Node → Bool
is_at_or_above upper lower = nat_le upper.first lower.first && nat_le lower.last upper.last

-- the box of the node and the boxes of all nodes above it meet a box
unfoldable pub is_reached : List Node → Box3 → Node → Bool
is_reached nodes around node = list_all (λ upper. not (is_at_or_above upper node) || boxes_meet upper.fit around) nodes

-- how many of the nodes are reached
unfoldable pub count_reached : List Node → Box3 → ℕ
count_reached nodes around = count_by (is_reached nodes around) nodes

-- the work of a box: 0 for no triangle, 1 for one, and else 1 and twice the count of the inner nodes that are reached
unfoldable pub work_of : List Key → List Box3 → Box3 → ℕ
work_of [] boxes around = 0
work_of (k ∷ []) boxes around = 1
work_of (k ∷ l ∷ keys) boxes around = 1 + 2 * count_reached (table_of (k ∷ l ∷ keys) boxes) around
