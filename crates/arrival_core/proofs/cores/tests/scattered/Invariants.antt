use Rattle.std.proofs.Common.{◌≡◌, length}
use Rattle.arrival_core.proofs.cores.tests.scattered.Given as goal

abbrev pub invariant-loop : goal.invariant-loop
invariant-loop l = length l.boxes.items ≡ l.counter
