use Rattle.std.proofs.Common.{◌≡◌, ◌+◌, ◌<◌, ℕ, length, get_or, subst, sym, arith}
use Rattle.std.proofs.lemmas.List.{get_or_default}
use Rattle.walk_list.specs.declared.records.Leaf.{Leaf}
use Rattle.walk_list.specs.Covering.{Bounds}
use Rattle.walk_list.specs.Leaves.{leaf_at, no_leaf}
use Rattle.walk_list.proofs.Mended.{one_bounds, union_bounds}
use Rattle.walk_list.proofs.mending.around.Goals as goal

pub loop-position-init : goal.loop-position-init
unfolding leaf_at
loop-position-init c =
    let leaves = c.args.leaves.now in
    let x = c.index-leaves-first.result in
    let within : c.args.first < length leaves = omega (arith, c.requires.order, c.requires.within) in
    let read : get_or leaves c.args.first x ≡ leaf_at leaves c.args.first =
    get_or_default leaves c.args.first x no_leaf within in
    subst (λ (l : Leaf). Bounds leaves l.fit c.args.first (c.args.first + 1)) (sym read)
    (one_bounds leaves c.args.first (c.requires.world.each c.args.first within))

pub loop-position-preserved : goal.loop-position-preserved
unfolding leaf_at
loop-position-preserved c =
    let leaves = c.args.leaves.now in
    let p : ℕ = c.loop-position.position in
    let x = c.index-leaves-position.result in
    let within : p < length leaves = omega (arith, c.loop-position-test.true, c.requires.within) in
    let read : get_or leaves p x ≡ leaf_at leaves p = get_or_default leaves p x no_leaf within in
    union_bounds leaves c.loop-position.fit (get_or leaves p x).fit c.union-fit.result c.args.first p (p + 1)
    c.loop-position.invariant
    (subst (λ (l : Leaf). Bounds leaves l.fit p (p + 1)) (sym read)
    (one_bounds leaves p (c.requires.world.each p within)))
    c.union-fit.ensures.least
