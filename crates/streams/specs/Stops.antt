-- What a call that writes says of the sink's faults. No public clause cites this module.
use Rattle.std.specs.Prelude.{◌≡◌, ◌≤◌, ℕ, Result, IsErrOf}
use Rattle.outside.specs.Causes.{Rose}
use Rattle.streams.specs.declared.answerer.Stop.{Stop}
use Rattle.streams.specs.declared.answerer.Stop.TheVariants.{Read, Write}

-- it reads nothing, and the count of faults rose just where it stopped at a write
pub record StopsAtSink {T : Type 0} (result : Result T Stop) (faults faults_now : ℕ) : Type 0 where
  pub write : IsErrOf result Write → Rose faults faults_now
  pub read : IsErrOf result Read → ⊥
  pub later : faults ≤ faults_now
  pub kept : (IsErrOf result Write → ⊥) → faults_now ≡ faults
