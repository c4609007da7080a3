use Rattle.std.proofs.Common.{ℕ, ◌<◌, List}
use Rattle.std.specs.Prelude.{All}
use Rattle.arrival_core.proofs.cores.tests.stopping.Ledger.go_on.Given as goal

-- the worker whose turn it is, and those of the schedule so far
pub record AreWorkers (workers worker : ℕ) (schedule : List ℕ) : Type 0 where
  pub turn : worker < workers
  pub past : All (λ k. k < workers) schedule

abbrev pub invariant-loop : goal.invariant-loop
invariant-loop l = AreWorkers l.workers l.worker l.schedule.items
