use Rattle.std.proofs.Common.{◌<◌, ◌^◌, length, subst, sym}
use Rattle.refit.proofs.LivePositions.{not_falling}
use Rattle.walk_list.specs.Stale.{HaveBoxes, ListsMoved}
use Rattle.walk_list.proofs.Moved.{over_but, list_has_boxes, few_leaves}
use Rattle.walk_list.proofs.tests.moves.moved_of.Goals as goal

pub list_moved-requires-clause-boxes : goal.list_moved-requires-clause-boxes
list_moved-requires-clause-boxes c =
    subst (λ ls. HaveBoxes ls c.args.boxes.now) (sym c.leaves.ensures)
    (list_has_boxes c.args.list.now c.args.before.now c.args.boxes.now c.requires.over c.requires.count)

pub list_moved-requires-clause-few : goal.list_moved-requires-clause-few
list_moved-requires-clause-few c =
    subst (λ ls. length ls < 2 ^ 32) (sym c.leaves.ensures)
    (few_leaves c.args.list.now c.args.before.now c.args.boxes.now c.requires.over c.requires.count)

pub returns-clause-over : goal.returns-clause-over
returns-clause-over c =
    let moved = c.list_moved.new.moved.items in
    let listed : ListsMoved c.args.list.now.leaves c.args.boxes.now (length c.args.list.now.leaves) moved =
    subst (λ ls. ListsMoved ls c.args.boxes.now (length ls) moved) c.leaves.ensures c.in_ok-list_moved.ensures in
    over_but c.args.list.now c.args.before.now c.args.boxes.now c.requires.over c.requires.count moved listed.each

pub returns-clause-rising : goal.returns-clause-rising
returns-clause-rising c =
    let moved = c.list_moved.new.moved.items in
    let listed : ListsMoved c.args.list.now.leaves c.args.boxes.now (length c.args.list.now.leaves) moved =
    subst (λ ls. ListsMoved ls c.args.boxes.now (length ls) moved) c.leaves.ensures c.in_ok-list_moved.ensures in
    not_falling moved listed.rising
