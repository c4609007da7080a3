use Rattle.traversal.proofs.Leaves.{from_one, has_box, added, passed_over}
use Rattle.traversal.proofs.overlapping.test_leaf.Goals as goal

pub overflow_sub-around : goal.overflow_sub-around
overflow_sub-around c =
    from_one c.args.t.now c.keys.ensures.table c.args.boxes.now c.requires.fitted c.keys.result.now c.keys.ensures.keys
    c.args.position c.requires.within

pub bounds-boxes-tri : goal.bounds-boxes-tri
bounds-boxes-tri c =
    has_box c.args.t.now c.keys.ensures.table c.args.boxes.now c.requires.fitted c.keys.result.now c.keys.ensures.keys
    c.args.position c.requires.within

pub returns-in_ok-push : goal.returns-in_ok-push
returns-in_ok-push c =
    added c.args.t.now c.keys.ensures.table c.args.boxes.now c.requires.fitted c.keys.result.now c.keys.ensures.keys
    c.args.position c.requires.within c.args.q.now c.index-boxes-tri.result c.meets.result c.args.numbers.now.items
    c.push.new.self.items c.index-boxes-tri.is c.meets.ensures.value c.if-meets.true c.in_ok-push.ensures.items

pub returns-else-meets : goal.returns-else-meets
returns-else-meets c =
    passed_over c.args.t.now c.keys.ensures.table c.args.boxes.now c.requires.fitted c.keys.result.now
    c.keys.ensures.keys
    c.args.position c.requires.within c.args.q.now c.index-boxes-tri.result c.meets.result c.args.numbers.now.items
    c.index-boxes-tri.is c.meets.ensures.value c.if-meets.false
