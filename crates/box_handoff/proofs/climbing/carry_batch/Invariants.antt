use Rattle.std.proofs.Common.{◌+◌, ◌-◌, take, drop}
use Rattle.box_handoff.specs.Entries.{given_of}
use Rattle.box_handoff.specs.Climbs.{Working}
use Rattle.box_handoff.proofs.climbing.carry_batch.Given as goal

abbrev pub invariant-loop-i : goal.invariant-loop-i
invariant-loop-i g l = Working (given_of l.table.key.value) l.fn.seat l.seat (l.batch + 1)
    (take (l.end - l.i) (drop l.i l.about.live.items)) l.tally
