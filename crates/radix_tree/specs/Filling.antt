-- A table while it is filled, and a child on the way down, which the crate's own functions cite.
-- No public clause cites this module.
use Rattle.std.specs.Prelude.{ℕ, ◌≡◌, ◌-◌, ◌<◌, ◌≤◌, List, length}
use Rattle.fixed_box.specs.declared.shapes.Box3.{Box3}
use Rattle.fixed_box.specs.Boxes.{IsLeastBox}
use Rattle.morton_key.specs.declared.keys.Key.{Key}
use Rattle.radix_tree.specs.declared.nodes.Node.{Node}
use Rattle.radix_tree.specs.declared.nodes.Child.{Child}
use Rattle.radix_tree.specs.declared.nodes.Child.TheVariants.{Leaf, Inner}
use Rattle.radix_tree.specs.Table.{Contents, node_at, IsRow}
use Rattle.radix_tree.specs.Fit.{boxes_in}

-- the node is the row of that number, with the least box
pub record IsFullRow (keys : List Key) (boxes : List Box3) (number : ℕ) (node : Node) : Type 0 where
  pub row : IsRow keys number node
  pub fit : IsLeastBox (boxes_in boxes keys node.first node.last) node.fit

-- the list has that row at its number, if it is so long
pub record HasRow (keys : List Key) (boxes : List Box3) (nodes : List Node) (number : ℕ) : Type 0 where
  pub here : number < length nodes → IsFullRow keys boxes number (node_at nodes number)

-- k is the number of a node of the subtree whose root has that number and range
pub record IsBelow (number first last k : ℕ) : Type 0 where
  pub low : first ≤ k
  pub high : k ≤ last
  pub not_last : number ≡ first → k < last
  pub not_first : number ≡ last → first < k

-- a child that stands in the tree: a position of a key, or the number of a node
abbrev pub IsChild : Contents → Child → Type 0
IsChild t (Leaf p) = p < length t.keys
IsChild t (Inner i) = i < length t.nodes

-- how many positions a child has, less one
abbrev pub span_of : Contents → Child → ℕ
span_of t (Leaf p) = 0
span_of t (Inner i) = (node_at t.nodes i).last - (node_at t.nodes i).first
