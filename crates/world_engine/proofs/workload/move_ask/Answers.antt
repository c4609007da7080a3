use Rattle.std.proofs.Common.{rules, arith, ap, length, ◌+◌}
use Rattle.std.proofs.lemmas.Nat.{mul-le}
use Rattle.obj_text.proofs.FieldMeshes.{length-field_points}
use Rattle.world_engine.specs.Workload.{move_ask}
use Rattle.world_engine.proofs.workload.move_ask.Goals as goal

pub bounds-points-place : goal.bounds-points-place
bounds-points-place c =
    let side = c.args.side in
    let some = mul-le 1 1 (side + 1) (side + 1) (omega arith) (omega arith) in
    omega (arith, some, length-field_points side, ap length c.requires.points)

pub returns-clause-value : goal.returns-clause-value
unfolding move_ask
returns-clause-value c = search rules
