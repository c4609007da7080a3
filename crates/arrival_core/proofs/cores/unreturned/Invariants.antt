use Rattle.std.proofs.Common.{◌≡◌, ◌≤◌, ℕ}
use Rattle.std.specs.Prelude.{not}
use Rattle.arrival_core.specs.Sums.{bit, sum_below}
use Rattle.arrival_core.specs.Forks.{fork_at}
use Rattle.arrival_core.proofs.cores.unreturned.Given as goal

-- the count so far, which is no greater than the index
pub record Counted (sum count index : ℕ) : Type 0 where
  pub value : count ≡ sum
  pub most : count ≤ index

abbrev pub invariant-loop-fork : goal.invariant-loop-fork
invariant-loop-fork l = Counted (sum_below l.fork-index (λ t. bit (not (fork_at l.forks t).returned))) l.count
    l.fork-index
