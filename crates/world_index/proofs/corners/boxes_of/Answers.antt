use Rattle.std.proofs.Common.{◌≡◌, All, rules, subst, sym}
use Rattle.rayon.proofs.ListFacts.{IfOk-then}
use Rattle.fixed_box.specs.World.{BoxInWorld}
use Rattle.world_index.specs.Worlds.{tris_at, boxes_at}
use Rattle.world_index.proofs.WorldBoxes.{tris_in_world, boxes_in_world}
use Rattle.world_index.proofs.corners.boxes_of.Goals as goal

pub returns-clause-world : goal.returns-clause-world
returns-clause-world g c =
    let points = c.args.points.now in
    let faces = c.args.faces.now in
    IfOk-then c.map_err.result (λ boxes. boxes.items ≡ boxes_at points faces) (λ boxes. All BoxInWorld boxes.items)
    (search rules) (λ boxes made. subst (All BoxInWorld) (sym made)
    (boxes_in_world (tris_at points faces) (tris_in_world points faces c.requires.world c.requires.named)))
