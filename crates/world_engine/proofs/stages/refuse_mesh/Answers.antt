use Rattle.std.proofs.Common.{◌∙◌}
use Rattle.world_engine.proofs.Stops.{stopped, same_said}
use Rattle.world_engine.proofs.stages.refuse_mesh.Goals as goal

pub returns-in_default-clause-output : goal.returns-in_default-clause-output
returns-in_default-clause-output g c = stopped _ _ _ (λ w. w)

pub returns-clause-output : goal.returns-clause-output
returns-clause-output g c =
    same_said c.deref.result.now _ _ c.say.result _ _ (c.deref.ensures.value ∙ c.in-Ok.ensures) c.say.ensures.output
