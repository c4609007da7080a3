use Rattle.std.proofs.Common.{sym, ◌∙◌, arith}
use Rattle.walk_list.proofs.Rows.{here, step_past, step_into, step_over}
use Rattle.walk_list.proofs.collecting.step.Goals as goal

pub returns-then-not-meet : goal.returns-then-not-meet
returns-then-not-meet c =
    let at = here c.args.leaves.now c.args.records.now c.args.at c.args.position c.index-records-at.result
    c.requires.stands c.requires.within c.index-records-at.is in
    step_past c.args.leaves.now c.args.records.now c.args.q.now c.args.at c.args.position c.index-records-at.result
    c.args.numbers.now.items at (sym c.meet.ensures ∙ c.if-not-meet.true)

pub returns-then-r-ne1 : goal.returns-then-r-ne1
returns-then-r-ne1 c =
    let at = here c.args.leaves.now c.args.records.now c.args.at c.args.position c.index-records-at.result
    c.requires.stands c.requires.within c.index-records-at.is in
    step_into c.args.leaves.now c.args.records.now c.args.q.now c.args.at c.args.position c.index-records-at.result
    c.args.numbers.now.items at c.if-r-ne1.true

pub test_run-requires-clause-within : goal.test_run-requires-clause-within
test_run-requires-clause-within c =
    let at = here c.args.leaves.now c.args.records.now c.args.at c.args.position c.index-records-at.result
    c.requires.stands c.requires.within c.index-records-at.is in
    at.end

pub test_run-requires-clause-order : goal.test_run-requires-clause-order
test_run-requires-clause-order c =
    let at = here c.args.leaves.now c.args.records.now c.args.at c.args.position c.index-records-at.result
    c.requires.stands c.requires.within c.index-records-at.is in
    omega (arith, at.bounds.order)

pub returns : goal.returns
returns c =
    let at = here c.args.leaves.now c.args.records.now c.args.at c.args.position c.index-records-at.result
    c.requires.stands c.requires.within c.index-records-at.is in
    step_over c.args.leaves.now c.args.records.now c.args.q.now c.args.at c.args.position c.index-records-at.result
    c.args.numbers.now.items at c.test_run.new.numbers.items c.if-r-ne1.false c.in_ok-test_run.ensures
