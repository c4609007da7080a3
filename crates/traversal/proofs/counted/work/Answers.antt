use Rattle.std.proofs.Common.{sym, refl}
use Rattle.traversal.proofs.Reached.{work_of-none}
use Rattle.traversal.proofs.Roots.{whole_tests}
use Rattle.traversal.proofs.counted.work.Goals as goal

pub returns-in-Some : goal.returns-in-Some
returns-in-Some c =
    let root = c.in-Some.ensures in
    whole_tests c.args.t.now root.table c.args.boxes.now c.requires c.args.q.now c.in-Some.child c.count_below.result
    root.child root.range (c.count_below.ensures.tests _ _ root.range)

pub returns-in-None : goal.returns-in-None
returns-in-None c = sym (work_of-none c.args.t.now.keys c.args.boxes.now c.args.q.now (c.in-None.ensures.none refl))
