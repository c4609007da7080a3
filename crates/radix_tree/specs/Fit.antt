-- When the boxes of a tree's nodes are the least round their triangles.
use Rattle.std.specs.Prelude.{ℕ, suc, zero, ◌≡◌, ◌<◌, ◌+◌, ◌-◌, List, [], ◌∷◌, length, map, slice_index_or, slice_range, Option, Some, None}
use Rattle.fixed_box.specs.declared.shapes.Box3.{Box3}
use Rattle.fixed_box.specs.Boxes.{IsLeastBox}
use Rattle.fixed_box.specs.Extent.{union_of}
use Rattle.morton_key.specs.declared.keys.Key.{Key}
use Rattle.radix_tree.specs.declared.nodes.Node.{Node}
use Rattle.radix_tree.specs.Shape.{Row, row_at}
use Rattle.radix_tree.specs.Table.{Contents, no_box, no_node, node_at}

-- the box of a triangle, of which the first has number 1
unfoldable pub box_of_triangle : List Box3 → ℕ → Box3
box_of_triangle boxes t = slice_index_or boxes (t - 1) no_box

-- the boxes of the triangles at positions a to b
unfoldable pub boxes_in : List Box3 → List Key → ℕ → ℕ → List Box3
boxes_in boxes keys a b = map (λ k. box_of_triangle boxes k.tri) (slice_range keys a (b + 1))

-- one box for each key, and the box of each node is the least round those of the triangles in its range
pub record IsFitted (t : Contents) (boxes : List Box3) : Type 0 where
  pub count : length boxes ≡ length t.keys
  pub each : (k : ℕ) → k < length t.nodes →
      IsLeastBox (boxes_in boxes t.keys (node_at t.nodes k).first (node_at t.nodes k).last) (node_at t.nodes k).fit

-- ---- the same table by a function

-- the least box round a box and others
unfoldable pub joined : Box3 → List Box3 → Box3
joined b [] = b
joined b (c ∷ cs) = union_of b (joined c cs)

-- the least box round boxes
unfoldable pub least_box_of : List Box3 → Box3
least_box_of [] = no_box
least_box_of (b ∷ bs) = joined b bs

-- the node of a row, with its box
unfoldable pub node_of_row : List Key → List Box3 → Option Row → Node
node_of_row keys boxes None = no_node
node_of_row keys boxes (Some r) =
    record { first = r.first; last = r.last; split = r.split; fit = least_box_of (boxes_in boxes keys r.first r.last) }

-- the nodes of so many numbers, from a number on
unfoldable pub nodes_from : List Key → List Box3 → ℕ → ℕ → List Node
nodes_from keys boxes k zero = []
nodes_from keys boxes k (suc count) = node_of_row keys boxes (row_at keys k) ∷ nodes_from keys boxes (suc k) count

-- the nodes of the tree over the keys, fitted to the boxes
unfoldable pub table_of : List Key → List Box3 → List Node
table_of keys boxes = nodes_from keys boxes 0 (length keys - 1)
