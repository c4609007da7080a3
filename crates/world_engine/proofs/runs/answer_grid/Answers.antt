use Rattle.world_engine.proofs.Stops.{stopped}
use Rattle.world_engine.proofs.runs.answer_grid.Goals as goal

pub returns-in_default-clause-output : goal.returns-in_default-clause-output
returns-in_default-clause-output g c = stopped _ _ _ (λ w. w)
