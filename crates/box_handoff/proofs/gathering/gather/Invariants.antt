use Rattle.std.proofs.Common.{vec_len}
use Rattle.box_handoff.specs.Entries.{given_of}
use Rattle.box_handoff.specs.Gathering.{IsGathering}
use Rattle.box_handoff.proofs.gathering.gather.Given as goal

abbrev pub invariant-loop-other : goal.invariant-loop-other
invariant-loop-other l = IsGathering (given_of l.table.key.value) l.table.table_id l.initial.seats.items l.seats.items
    l.initial.first l.first l.initial.sum l.sum

abbrev pub decreases-loop-other : goal.decreases-loop-other
decreases-loop-other l = vec_len l.seats
