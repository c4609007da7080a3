-- What a walk over a part of the tree finds, which the crate's own functions cite. No public clause cites this module.
use Rattle.std.specs.Prelude.{ℕ, ◌+◌, List, ◌∷◌, Bool, map, filter, slice_range, count_by}
use Rattle.fixed_box.specs.declared.shapes.Box3.{Box3}
use Rattle.fixed_box.specs.Extent.{boxes_meet}
use Rattle.morton_key.specs.declared.keys.Key.{Key}
use Rattle.radix_tree.specs.declared.nodes.Node.{Node}
use Rattle.radix_tree.specs.declared.nodes.Child.{Child}
use Rattle.radix_tree.specs.declared.nodes.Child.TheVariants.{Leaf, Inner}
use Rattle.radix_tree.specs.Table.{node_at}
use Rattle.radix_tree.specs.Fit.{box_of_triangle}

-- the box of the key's triangle meets a box
unfoldable pub key_meets : List Box3 → Box3 → Key → Bool
key_meets boxes around key = boxes_meet (box_of_triangle boxes key.tri) around

-- the triangles at positions a to b whose boxes meet a box, by position
unfoldable pub met_in : List Key → List Box3 → Box3 → ℕ → ℕ → List ℕ
met_in keys boxes around a b = map (λ k. k.tri) (filter (key_meets boxes around) (slice_range keys a (b + 1)))

-- how many of the nodes have a box that meets a box
unfoldable pub count_meeting : List Node → Box3 → ℕ
count_meeting nodes around = count_by (λ node. boxes_meet node.fit around) nodes

-- of a child with the range [a, b], how many nodes at it and below it have a box that meets a box
unfoldable pub met_below : List Node → Box3 → Child → ℕ → ℕ → ℕ
met_below nodes around (Leaf p) a b = 0
met_below nodes around (Inner i) a b = count_meeting (node_at nodes i ∷ slice_range nodes (a + 1) b) around
