use Rattle.std.proofs.Common.{◌≡◌}
use Rattle.arrival_core.specs.Cores.{setting_of}
use Rattle.arrival_core.proofs.cores.tests.any_event.Given as goal

abbrev pub invariant-loop-offset : goal.invariant-loop-offset
invariant-loop-offset l = setting_of l.s ≡ setting_of l.fn.s
