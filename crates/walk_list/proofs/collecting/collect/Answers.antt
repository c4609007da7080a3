use Rattle.std.proofs.Common.{◌++◌, ap, sym, ◌∙◌, arith, append-nil}
use Rattle.walk_list.proofs.Meetings.{met_between-none}
use Rattle.walk_list.proofs.Rows.{begins, added_on, all_seen}
use Rattle.walk_list.proofs.collecting.collect.Goals as goal

pub loop-at-init : goal.loop-at-init
loop-at-init c = record {
  stands = begins c.args.leaves.now c.args.records.now c.requires;
  added = sym (ap (λ xs. c.args.numbers.now.items ++ xs)
      (met_between-none c.args.leaves.now c.args.q.now 0 0 (omega arith)) ∙ append-nil _);
}

pub loop-at-preserved : goal.loop-at-preserved
loop-at-preserved c = record {
  stands = c.in_ok-next.ensures.stands;
  added = added_on c.args.leaves.now c.args.records.now c.args.q.now c.loop-at.at c.loop-at.position _ _
      c.args.numbers.now.items c.loop-at.numbers.items c.step.new.numbers.items c.loop-at.invariant.added
      c.in_ok-next.ensures;
}

pub loop-at-smaller : goal.loop-at-smaller
loop-at-smaller c = omega (arith, c.in_ok-next.ensures.on, c.loop-at-test.true)

pub returns : goal.returns
returns c =
    all_seen c.args.leaves.now c.args.records.now c.args.q.now c.loop-at.at c.loop-at.position
    c.args.numbers.now.items c.loop-at.numbers.items c.loop-at.invariant.stands c.loop-at-test.false
    c.loop-at.invariant.added
