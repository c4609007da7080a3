use Rattle.std.proofs.Common.{[]}
use Rattle.box_handoff.specs.Entries.{given_of}
use Rattle.box_handoff.specs.Climbs.{Working}
use Rattle.box_handoff.proofs.climbing.climb_with.Given as goal

abbrev pub invariant-loop-batch : goal.invariant-loop-batch
invariant-loop-batch g l = Working (given_of l.table.key.value) l.fn.seat l.seat l.batch [] l.tally
