use Rattle.std.proofs.Common.{arith, ap, ◌∙◌, sym, subst, ◌≡◌, ◌-◌, ◌<◌, ◌≤◌, List, length}
use Rattle.radix_tree.specs.Table.{node_at, IsRow}
use Rattle.radix_tree.specs.declared.nodes.Node.{Node}
use Rattle.radix_tree.proofs.RowLaws.{node_is}
use Rattle.box_handoff.proofs.EndLaws.{filled, all_filled, row_below}
use Rattle.box_handoff.proofs.tree_ways.TreeWays.of.Goals as goal

pub index_mut-requires : goal.index_mut-requires
index_mut-requires c =
    let inside : c.loop-i.i < length c.args.tree.now.nodes = subst
    (λ (xs : List Node). c.loop-i.i < length xs) c.nodes-nodes.ensures.nodes c.loop-i-test.true in
    let is : c.index-nodes-i.result ≡ node_at c.args.tree.now.nodes c.loop-i.i = node_is c.nodes-nodes.result.now
    c.loop-i.i c.index-nodes-i.result c.loop-i-test.true c.index-nodes-i.is
    ∙ ap (λ (xs : List Node). node_at xs c.loop-i.i) c.nodes-nodes.ensures.nodes in
    let low = row_below c.args.tree.now c.nodes-nodes.ensures.table c.loop-i.i c.index-nodes-i.result inside is in
    omega (arith, low, c.loop-i.invariant.firsts)

pub index_mut-requires-in-loop-i : goal.index_mut-requires-in-loop-i
index_mut-requires-in-loop-i c =
    let inside : c.loop-i.i < length c.args.tree.now.nodes = subst
    (λ (xs : List Node). c.loop-i.i < length xs) c.nodes-nodes.ensures.nodes c.loop-i-test.true in
    let is : c.index-nodes-i.result ≡ node_at c.args.tree.now.nodes c.loop-i.i = node_is c.nodes-nodes.result.now
    c.loop-i.i c.index-nodes-i.result c.loop-i-test.true c.index-nodes-i.is
    ∙ ap (λ (xs : List Node). node_at xs c.loop-i.i) c.nodes-nodes.ensures.nodes in
    let low = row_below c.args.tree.now c.nodes-nodes.ensures.table c.loop-i.i c.index-nodes-i.result inside is in
    omega (arith, low, c.loop-i.invariant.lasts)

pub loop-i-preserved : goal.loop-i-preserved
loop-i-preserved c =
    let inside : c.loop-i.i < length c.args.tree.now.nodes = subst
    (λ (xs : List Node). c.loop-i.i < length xs) c.nodes-nodes.ensures.nodes c.loop-i-test.true in
    let is : c.index-nodes-i.result ≡ node_at c.args.tree.now.nodes c.loop-i.i = node_is c.nodes-nodes.result.now
    c.loop-i.i c.index-nodes-i.result c.loop-i-test.true c.index-nodes-i.is
    ∙ ap (λ (xs : List Node). node_at xs c.loop-i.i) c.nodes-nodes.ensures.nodes in
    let row : IsRow c.args.tree.now.keys c.loop-i.i c.index-nodes-i.result = subst
    (λ (x : Node). IsRow c.args.tree.now.keys c.loop-i.i x) (sym is)
    (c.nodes-nodes.ensures.table.each c.loop-i.i inside) in
    filled c.args.tree.now.keys c.nodes-nodes.ensures.table.lawful c.loop-i.first.items c.loop-i.last.items c.loop-i.i
    _ _ _ c.loop-i.invariant row.range row.part

pub returns : goal.returns
returns c =
    let count = c.nodes-nodes.ensures.table.count in
    let all : length c.args.tree.now.keys - 1 ≤ c.loop-i.i = let n : length c.nodes-nodes.result.now ≡ length
    c.args.tree.now.nodes = ap (λ (xs : List Node). length xs) c.nodes-nodes.ensures.nodes in
    omega (arith, count, n) in
    all_filled c.args.tree.now.keys c.nodes-nodes.ensures.table.lawful _ _ c.loop-i.i c.loop-i.invariant all
