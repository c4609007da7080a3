use Rattle.std.proofs.Common.{ap, sym}
use Rattle.arrival_core.specs.States.{resting_packet}
use Rattle.arrival_core.proofs.cores.resting_in.Goals as goal

pub returns-in-Nothing : goal.returns-in-Nothing
unfolding resting_packet
returns-in-Nothing c = sym (ap resting_packet c.in-Nothing.is)

pub returns-in-Holds : goal.returns-in-Holds
unfolding resting_packet
returns-in-Holds c = sym (ap resting_packet c.in-Holds.is)

pub returns-in-Out : goal.returns-in-Out
unfolding resting_packet
returns-in-Out c = sym (ap resting_packet c.in-Out.is)
