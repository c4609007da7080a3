use Rattle.std.proofs.Common.{rules}
use Rattle.world_engine.proofs.StageEnds.{stopped_first, refused_first}
use Rattle.world_engine.proofs.stages.answer_mesh.Goals as goal

pub returns-in-Err-Line : goal.returns-in-Err-Line
returns-in-Err-Line g c =
    let said = c.refuse_mesh.ensures in
    refused_first _ _ _ _ _ _ _ _ _ _ _ _ _ (search rules) said.output.front (search rules) said.answers said.sink
    said.sink_kept

pub returns-in-Err-Memory : goal.returns-in-Err-Memory
returns-in-Err-Memory g c =
    stopped_first _ _ _ _ _ _ _ _ _ _ (λ w. w) (λ w. w) (λ e. cc) (λ e. let clash : ⊥ = cc in clash)

pub returns-in_default : goal.returns-in_default
returns-in_default g c =
    stopped_first _ _ _ _ _ _ _ _ _ _ (λ w. w) (λ w. w) (λ e. cc) (λ e. let clash : ⊥ = cc in clash)
