use Rattle.std.proofs.Common.{◌≡◌, ◌<◌, ap, sym, subst, length}
use Rattle.radix_tree.proofs.RowLaws.{table_with_box_at, put_at}
use Rattle.radix_tree.proofs.trees.Tree.put.Goals as goal

pub invariant_of-self : goal.invariant_of-self
invariant_of-self c =
    let same : c.self.inside.nodes.items ≡ c.args.self.now.nodes = ap (λ t. t.nodes) c.self.view_is in
    let inside : c.args.number < length c.self.inside.nodes.items =
    subst (λ xs. c.args.number < length xs) (sym same) c.requires in
    table_with_box_at c.self.inside.keys.items c.self.inside.nodes.items c.args.number c.index_mut.result.now
    c.args.fit inside
    c.index_mut.ensures.value c.self.invariant

pub returns-clause-nodes : goal.returns-clause-nodes
returns-clause-nodes c =
    put_at c.self.inside.nodes.items c.args.self.now.nodes c.args.number c.index_mut.result.now c.args.fit
    (ap (λ t. t.nodes) c.self.view_is) c.requires c.index_mut.ensures.value
