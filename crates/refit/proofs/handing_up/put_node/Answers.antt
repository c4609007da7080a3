use Rattle.std.proofs.Common.{ℕ, ap, ◌∙◌}
use Rattle.fixed_box.specs.declared.shapes.Box3.{Box3}
use Rattle.fixed_box.specs.Extent.{union_of}
use Rattle.radix_tree.specs.Table.{put_fit}
use Rattle.radix_tree.proofs.NodeLaws.{one_number}
use Rattle.radix_tree.proofs.DescentLaws.{row_range}
use Rattle.refit.proofs.PutRows.{put_table}
use Rattle.refit.proofs.handing_up.put_node.Goals as goal

pub put-requires : goal.put-requires
put-requires c = (row_range c.args.tree.now c.number_of-number.ensures.table c.number_of-number.result _ _
    c.number_of-number.ensures.node).0

pub returns-clause-table : goal.returns-clause-table
returns-clause-table c = put_table c.args.tree.now c.put.new.self c.number_of-number.ensures.table
    c.number_of-number.result c.union.result
    (row_range c.args.tree.now c.number_of-number.ensures.table c.number_of-number.result _ _
    c.number_of-number.ensures.node).0 c.put.ensures.keys c.put.ensures.nodes

pub returns-clause-nodes : goal.returns-clause-nodes
returns-clause-nodes c = λ i d. c.put.ensures.nodes
    ∙ ap (λ (b : Box3). put_fit c.args.tree.now.nodes c.number_of-number.result b) c.union.ensures.value
    ∙ ap (λ (k : ℕ). put_fit c.args.tree.now.nodes k (union_of c.args.left.now.fit c.args.right.now.fit))
    (one_number c.args.tree.now.keys c.number_of-number.ensures.table.lawful c.number_of-number.ensures.node d.node)
