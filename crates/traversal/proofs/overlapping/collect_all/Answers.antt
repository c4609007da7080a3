use Rattle.std.proofs.Common.{sym, refl}
use Rattle.std.proofs.lemmas.Result.{IfOk-weaker}
use Rattle.traversal.proofs.Reached.{work_of-none}
use Rattle.traversal.proofs.Roots.{met_in-empty, whole_tests}
use Rattle.traversal.proofs.overlapping.collect_all.Goals as goal

pub returns-in-None-clause-numbers : goal.returns-in-None-clause-numbers
returns-in-None-clause-numbers c =
    met_in-empty c.args.t.now.keys c.args.boxes.now c.args.q.now c.args.numbers.now.items (c.in-None.ensures.none refl)

pub returns-in-None-clause-tests : goal.returns-in-None-clause-tests
returns-in-None-clause-tests c =
    sym (work_of-none c.args.t.now.keys c.args.boxes.now c.args.q.now (c.in-None.ensures.none refl))

pub returns-in-Some-clause-tests : goal.returns-in-Some-clause-tests
returns-in-Some-clause-tests c =
    let root = c.in-Some.ensures in
    IfOk-weaker c.collect.result _ _
    (λ n tests. whole_tests c.args.t.now root.table c.args.boxes.now c.requires c.args.q.now c.in-Some.child n
    root.child root.range
    (tests _ _ root.range)) c.collect.ensures.tests
