use Rattle.fixed_box.specs.Boxes.{Meets}
use Rattle.fixed_box.specs.Extent.{boxes_meet}
use Rattle.fixed_box.proofs.ByCorners.{meets_tested, meets_refused}
use Rattle.fixed_box.proofs.MeetingTest.{boxes_meet_is, one_answer}
use Rattle.fixed_box.proofs.boxes.meets.Goals as goal

pub returns-then-at_most-clause-point : goal.returns-then-at_most-clause-point
returns-then-at_most-clause-point c =
    meets_tested c.args.a.now c.args.b.now c.at_most.result c.at_most-then-at_most.result c.if-at_most.true
    c.at_most.ensures c.at_most-then-at_most.ensures

pub returns-then-at_most-clause-value : goal.returns-then-at_most-clause-value
returns-then-at_most-clause-value c =
    let a = c.args.a.now in
    let b = c.args.b.now in
    one_answer c.at_most-then-at_most.result (boxes_meet a b) (Meets a b)
    (meets_tested a b c.at_most.result c.at_most-then-at_most.result c.if-at_most.true c.at_most.ensures c.at_most-then-at_most.ensures)
    (boxes_meet_is a b)

pub returns-else-at_most-clause-point : goal.returns-else-at_most-clause-point
returns-else-at_most-clause-point c =
    meets_refused c.args.a.now c.args.b.now c.at_most.result c.if-at_most.false c.at_most.ensures

pub returns-else-at_most-clause-value : goal.returns-else-at_most-clause-value
returns-else-at_most-clause-value c =
    let a = c.args.a.now in
    let b = c.args.b.now in
    one_answer c.at_most.result (boxes_meet a b) (Meets a b) (meets_refused a b c.at_most.result c.if-at_most.false c.at_most.ensures) (boxes_meet_is a b)
