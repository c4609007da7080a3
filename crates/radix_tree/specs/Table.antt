-- What a contract sees of a tree, and when its table of nodes is that of its keys.
use Rattle.std.specs.Prelude.{ℕ, pos, ◌≡◌, ◌<◌, ◌-◌, List, length, slice_index_or, slice_set}
use Rattle.fixed_box.specs.declared.shapes.Box3.{Box3}
use Rattle.fixed_box.specs.Extent.{point_box}
use Rattle.morton_key.specs.declared.keys.Key.{Key}
use Rattle.morton_key.specs.Keys.{IsLawful}
use Rattle.radix_tree.specs.declared.nodes.Node.{Node}
use Rattle.radix_tree.specs.Split.{split}
use Rattle.radix_tree.specs.Ranges.{IsNode}

-- the keys, and the inner nodes by number
pub record Contents : Type 0 where
  pub keys : List Key
  pub nodes : List Node

-- the box that stands where no box is
unfoldable pub no_box : Box3
no_box = point_box (record { x = pos 0; y = pos 0; z = pos 0 })

-- and the node where no node is
unfoldable pub no_node : Node
no_node = record { first = 0; last = 0; split = 0; fit = no_box }

-- the node of a number
unfoldable pub node_at : List Node → ℕ → Node
node_at nodes k = slice_index_or nodes k no_node

-- the nodes with another box at that number, and all else as it is
abbrev pub put_fit : List Node → ℕ → Box3 → List Node
put_fit nodes k fit = slice_set nodes k (record (node_at nodes k) { fit = fit })

-- the node has the range and the split of that number
pub record IsRow (keys : List Key) (number : ℕ) (node : Node) : Type 0 where
  pub range : IsNode keys number node.first node.last
  pub part : node.split ≡ split keys node.first node.last

-- lawful keys, and the rows of their tree, each at its number
pub record IsTable (t : Contents) : Type 0 where
  pub lawful : IsLawful t.keys
  pub count : length t.nodes ≡ length t.keys - 1
  pub each : (k : ℕ) → k < length t.nodes → IsRow t.keys k (node_at t.nodes k)
