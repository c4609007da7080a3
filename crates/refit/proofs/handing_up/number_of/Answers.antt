use Rattle.std.proofs.Common.{ap, ◌∙◌, sym, length, arith, List, get_or}
use Rattle.radix_tree.specs.declared.nodes.Node.{Node}
use Rattle.radix_tree.proofs.RowLaws.{node_is}
use Rattle.refit.proofs.PutRows.{first_inside, by_first, by_last}
use Rattle.refit.proofs.handing_up.number_of.Goals as goal

pub bounds-nodes-left : goal.bounds-nodes-left
bounds-nodes-left c =
    let i = first_inside c.args.tree.now c.nodes.ensures.table c.requires.node.0 _ _ c.requires.node.1 in
    omega (arith, i, ap length c.nodes.ensures.nodes)

pub bounds-nodes-left-2 : goal.bounds-nodes-left-2
bounds-nodes-left-2 c =
    let i = first_inside c.args.tree.now c.nodes.ensures.table c.requires.node.0 _ _ c.requires.node.1 in
    omega (arith, i, ap length c.nodes.ensures.nodes)

pub returns-then-nodes-left-clause-node : goal.returns-then-nodes-left-clause-node
returns-then-nodes-left-clause-node c =
    let i = first_inside c.args.tree.now c.nodes.ensures.table c.requires.node.0 _ _ c.requires.node.1 in
    by_first c.args.tree.now c.nodes.ensures.table c.requires.node.0 _ _ c.requires.node.1 _
    (ap (λ (x : Node). x.split) (sym c.index-nodes-left.is
    ∙ node_is c.args.tree.now.nodes c.args.left.now.first c.index-nodes-left.result i (c.index-nodes-left.is
    ∙ ap (λ (l : List Node). get_or l c.args.left.now.first c.index-nodes-left.result) c.nodes.ensures.nodes)))
    c.if-nodes-left.true

pub returns-else-nodes-left-clause-node : goal.returns-else-nodes-left-clause-node
returns-else-nodes-left-clause-node c =
    let i = first_inside c.args.tree.now c.nodes.ensures.table c.requires.node.0 _ _ c.requires.node.1 in
    by_last c.args.tree.now c.nodes.ensures.table c.requires.node.0 _ _ c.requires.node.1 _
    (ap (λ (x : Node). x.split) (sym c.index-nodes-left.is
    ∙ node_is c.args.tree.now.nodes c.args.left.now.first c.index-nodes-left.result i (c.index-nodes-left.is
    ∙ ap (λ (l : List Node). get_or l c.args.left.now.first c.index-nodes-left.result) c.nodes.ensures.nodes)))
    c.if-nodes-left.false
