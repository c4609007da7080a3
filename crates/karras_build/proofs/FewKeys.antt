-- Fewer than two keys have no nodes.
use Rattle.std.proofs.Common.{◌≡◌, ◌-◌, ◌<◌, List, [], length, ap, ◌∙◌, arith}
use Rattle.fixed_box.specs.declared.shapes.Box3.{Box3}
use Rattle.morton_key.specs.declared.keys.Key.{Key}
use Rattle.radix_tree.specs.declared.nodes.Node.{Node}
use Rattle.radix_tree.specs.Fit.{table_of, nodes_from}

-- no nodes are what the function of the fitted table gives then
pub no_nodes : (keys : List Key) (boxes : List Box3) (nodes : List Node) → length keys < 2 → nodes ≡ [] →
    nodes ≡ table_of keys boxes
unfolding table_of nodes_from
no_nodes keys boxes nodes few none =
    none ∙ ap (nodes_from keys boxes 0) (let z : 0 ≡ length keys - 1 = omega (arith, few) in z)
