use Rattle.std.proofs.Common.{length, if◌then◌else◌, ap, sym, ◌∙◌}
use Rattle.query_script.specs.declared.faults.LineFault.TheVariants.{NoSuchNode}
use Rattle.query_script.specs.declared.replies.Reply.TheVariants.{NodeIs, Refused}
use Rattle.radix_tree.specs.Table.{node_at}
use Rattle.radix_tree.proofs.RowLaws.{node_is}
use Rattle.std.proofs.lemmas.Bool.{lt-ltb}
use Rattle.world_index.proofs.world.node_reply.Goals as goal

pub returns-then-number-nodes : goal.returns-then-number-nodes
returns-then-number-nodes c =
    let nodes = c.args.nodes.now in
    let number = c.args.number in
    let inside = c.if-number-nodes.true in
    ap (NodeIs number) (node_is nodes number c.index-nodes-number.result inside c.index-nodes-number.is)
    ∙ sym (ap (λ b. if b then NodeIs number (node_at nodes number) else Refused NoSuchNode)
    (lt-ltb number (length nodes) inside))
