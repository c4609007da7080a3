use Rattle.std.proofs.Common.{ℕ, ◌<◌, List, length}
use Rattle.std.specs.Prelude.{All, AllPairs}
use Rattle.arrival_core.proofs.cores.tests.picked.Given as goal

-- positions below p that rise, one of them at least
pub record ArePicked (live : List ℕ) (p : ℕ) : Type 0 where
  pub within : All (λ q. q < p) live
  pub rising : AllPairs (λ a b. a < b) live
  pub some : 0 < length live

abbrev pub invariant-loop-p : goal.invariant-loop-p
invariant-loop-p l = ArePicked l.live.items l.p
