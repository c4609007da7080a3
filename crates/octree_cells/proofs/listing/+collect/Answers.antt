use Rattle.std.proofs.Common.{◌<◌, length, arith, subst}
use Rattle.std.proofs.lemmas.Result.{on_ok_weaker}
use Rattle.radix_tree.specs.Ranges.{HasRange}
use Rattle.radix_tree.specs.Filling.{IsChild}
use Rattle.radix_tree.proofs.DescentLaws.{left_below, right_below}
use Rattle.octree_cells.proofs.Walking as W
use Rattle.octree_cells.proofs.listing.+collect.Goals as goal

pub returns-in_default : goal.returns-in_default
returns-in_default t c = λ a b r.
    let tree = c.args.t.now in
    let here = subst (λ x. HasRange tree.keys x a b) c.in_default.is r in
    W.leaf_adds_none tree c.requires.table c.args.level c.requires.level c.in_default.field-0
    (subst (IsChild tree) c.in_default.is c.requires.child) c.args.found.now.items a b here (c.requires.apart a b r)

pub returns-in-Some : goal.returns-in-Some
returns-in-Some t c = λ a b r.
    let tree = c.args.t.now in
    let number = c.in-Inner.number in
    let inside : number < length tree.nodes = subst (IsChild tree) c.in-Inner.is c.requires.child in
    W.node_adds_cell tree c.requires.table c.args.level c.requires.level number inside c.in-Some.ensures.some
    c.in-Some.cell c.in-Some.ensures.cell c.args.found.now.items c.push.new.self.items c.in_ok-push.ensures.items
    (W.own_apart tree c.requires.table c.args.level c.requires.level number inside c.args.child c.in-Inner.is
    c.requires.apart)
    a b (subst (λ x. HasRange tree.keys x a b) c.in-Inner.is r)

pub collect-requires : goal.collect-requires
collect-requires t c =
    let tree = c.args.t.now in
    let number = c.in-Inner.number in
    let inside : number < length tree.nodes = subst (IsChild tree) c.in-Inner.is c.requires.child in
    let below = left_below tree c.requires.table c.args.child c.left.result number inside c.in-Inner.is
    c.left.ensures in
    let own = W.own_apart tree c.requires.table c.args.level c.requires.level number inside c.args.child c.in-Inner.is
    c.requires.apart in
    let alone = W.apart_from tree c.requires.table c.args.level c.requires.level c.left.result _ _ c.left.ensures
    (W.left_alone tree c.requires.table c.args.level c.requires.level number inside
    (c.cell_of.ensures.none c.in_default-cell_of.is) own) in
    (omega (arith, below.falls), (c.requires.table, (c.requires.level, (below.stands, alone))))

pub collect-requires-2 : goal.collect-requires-2
collect-requires-2 t c =
    let tree = c.args.t.now in
    let number = c.in-Inner.number in
    let inside : number < length tree.nodes = subst (IsChild tree) c.in-Inner.is c.requires.child in
    let below = right_below tree c.requires.table c.args.child c.right.result number inside c.in-Inner.is
    c.right.ensures in
    let own = W.own_apart tree c.requires.table c.args.level c.requires.level number inside c.args.child c.in-Inner.is
    c.requires.apart in
    let alone = W.apart_from tree c.requires.table c.args.level c.requires.level c.right.result _ _ c.right.ensures
    (W.right_alone tree c.requires.table c.args.level c.requires.level number inside
    (c.cell_of.ensures.none c.in_default-cell_of.is) own) in
    (omega (arith, below.falls), (c.requires.table, (c.requires.level, (below.stands, alone))))

pub returns : goal.returns
returns t c =
    let tree = c.args.t.now in
    let number = c.in-Inner.number in
    let inside : number < length tree.nodes = subst (IsChild tree) c.in-Inner.is c.requires.child in
    on_ok_weaker c.collect-2.result
    (λ on_right a b r. W.node_adds_both tree c.requires.table c.args.level c.requires.level number inside
    c.args.found.now.items c.collect.new.found.items c.collect-2.new.found.items
    (c.in_ok-collect.ensures _ _ c.left.ensures) (on_right _ _ c.right.ensures) a b
    (subst (λ x. HasRange tree.keys x a b) c.in-Inner.is r))
    c.collect-2.ensures
