use Rattle.std.proofs.Common.{◌∙◌, ap}
use Rattle.fixed_box.specs.Extent.{corner_box}
use Rattle.world_engine.specs.Workload.{far_corner, query_box}
use Rattle.world_engine.proofs.workload.query_box.Goals as goal

pub returns : goal.returns
unfolding query_box
returns c =
    let near = c.over_place-near.ensures.value in
    c.of_corners.ensures.value ∙ ap (corner_box c.over_place-near.result) c.far_corner.ensures
    ∙ ap (λ p. corner_box p (far_corner p)) near
