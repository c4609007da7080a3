use Rattle.box_handoff.proofs.Parting.{all_fresh}
use Rattle.box_handoff.proofs.handoffs.Handoff.partial.Goals as goal

pub returns-clause-seats : goal.returns-clause-seats
returns-clause-seats c = all_fresh c.in_ok-handoff.handoff c.in_ok-handoff.ensures.made c.in_ok-seats.seats.items
    c.in_ok-seats.ensures.fresh c.in_ok-seats.ensures.count
