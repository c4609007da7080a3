use Rattle.std.proofs.Common.{IfErr, subst}
use Rattle.obj_text.specs.Texts.{mesh_of, IsRefusalOf}
use Rattle.world_engine.proofs.stages.open_mesh.Goals as goal

pub returns-clause-refusal : goal.returns-clause-refusal
returns-clause-refusal g c =
    subst (λ text. IfErr c.read_mesh_by_threads.result (IsRefusalOf (mesh_of c.args.unit text))) c.deref.ensures.value
    c.read_mesh_by_threads.ensures.refusal
