use Rattle.std.proofs.Common.{arith, ap, subst, length, map, List, IfOk, ◌≡◌, ◌∙◌}
use Rattle.query_script.specs.declared.asks.Ask.{Ask}
use Rattle.obj_text.specs.Meshes.{MeshLists}
use Rattle.obj_text.specs.HeightFields.{field_mesh}
use Rattle.world_index.specs.Worlds.{WorldState, world_of}
use Rattle.world_engine.specs.declared.report.TheConstants.{STEPS}
use Rattle.world_engine.specs.Workload.{move_asks}
use Rattle.world_engine.specs.Reports.{text_of, report_of}
use Rattle.world_engine.specs.Steps.{stage_of}
use Rattle.world_engine.proofs.Telling.{length-pass_asks}
use Rattle.world_engine.proofs.report.grid_report.Goals as goal

pub move_asks-requires-clause-points : goal.move_asks-requires-clause-points
unfolding field_mesh
move_asks-requires-clause-points g c =
    c.points.ensures.points ∙ ap (λ (mesh : MeshLists). mesh.points) c.in_ok-mesh.ensures.mesh

pub told-requires-clause-few : goal.told-requires-clause-few
told-requires-clause-few g c =
    omega (arith, length-pass_asks c.args.side, ap length (c.deref.ensures.value ∙ c.in-Ok-pass_asks.ensures.asks))

-- the world that is asked is that of the field, and the pass and the moves are the defined ones
pub returns : goal.returns
unfolding report_of
returns g c =
    let side = c.args.side in
    let world = c.in_ok-world.ensures ∙ ap world_of c.in_ok-mesh.ensures.mesh in
    let pass = c.deref.ensures.value ∙ c.in-Ok-pass_asks.ensures.asks in
    let moves = c.deref-2.ensures.value ∙ c.in-Ok.ensures.asks in
    record {
      report = subst (λ (asks : List Ask). IfOk c.told.result (λ text. text.items
          ≡ text_of (world_of (field_mesh side)) (map (stage_of asks (move_asks side)) STEPS))) pass
          (subst (λ (asks : List Ask). IfOk c.told.result (λ text. text.items
          ≡ text_of (world_of (field_mesh side)) (map (stage_of c.deref.result.now asks) STEPS))) moves
          (subst (λ (start : WorldState). IfOk c.told.result (λ text. text.items
          ≡ text_of start (map (stage_of c.deref.result.now c.deref-2.result.now) STEPS))) world c.told.ensures));
    }
