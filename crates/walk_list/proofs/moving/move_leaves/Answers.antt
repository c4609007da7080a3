use Rattle.std.proofs.Common.{refl, arith, rules}
use Rattle.std.proofs.lemmas.List.{take_more}
use Rattle.walk_list.proofs.Moved.{moves_none, moves_more, next_read}
use Rattle.walk_list.proofs.moving.move_leaves.Goals as goal

pub loop-position-init : goal.loop-position-init
loop-position-init c = moves_none c.args.boxes.now c.args.leaves.now

pub overflow_sub-leaf : goal.overflow_sub-leaf
overflow_sub-leaf c =
    let r = next_read c.args.moved.now c.loop-position.position-index c.index-leaves-position.result
    c.loop-position.invariant c.requires.boxes c.requires.within (search rules) in
    omega (arith, r.from_one)

pub bounds-boxes-leaf : goal.bounds-boxes-leaf
bounds-boxes-leaf c =
    let r = next_read c.args.moved.now c.loop-position.position-index c.index-leaves-position.result
    c.loop-position.invariant c.requires.boxes c.requires.within (search rules) in
    r.inside

pub loop-position-preserved : goal.loop-position-preserved
loop-position-preserved c =
    let moved = c.args.moved.now in
    let i = c.loop-position.position-index in
    let r = next_read c.args.moved.now c.loop-position.position-index c.index-leaves-position.result
    c.loop-position.invariant c.requires.boxes c.requires.within (search rules) in
    rw (take_more moved i 0 (search rules)) (moves_more _ c.loop-position.invariant r refl c.index-boxes-leaf.is)
