use Rattle.box_handoff.specs.Gathering.{IsParting}
use Rattle.box_handoff.specs.Seats.{given_by, id_of}
use Rattle.box_handoff.proofs.making.seats_of.Given as goal

abbrev pub invariant-loop-number : goal.invariant-loop-number
invariant-loop-number l = IsParting (given_by l.handoff)
    (id_of l.handoff) l.handoff.about.seats l.number l.rest l.seats.items

abbrev pub decreases-loop-number : goal.decreases-loop-number
decreases-loop-number l = l.number
