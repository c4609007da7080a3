use Rattle.std.proofs.Common.{◌≡◌, ◌<◌}
use Rattle.arrival_core.specs.Cores.{setting_of}
use Rattle.arrival_core.proofs.cores.tests.run_out.Given as goal

abbrev pub invariant-loop : goal.invariant-loop
invariant-loop g l = (setting_of l.s ≡ setting_of l.fn.s) × (l.worker < l.workers)
