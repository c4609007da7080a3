use Rattle.std.proofs.Common.{sym, subst, List, All}
use Rattle.fixed_box.specs.World.{BoxInWorld}
use Rattle.fixed_box.specs.declared.shapes.Box3.{Box3}
use Rattle.karras_build.proofs.TriangleBoxes.{boxes_in_world}
use Rattle.karras_build.proofs.tri_boxes.boxes_of.Goals as goal

pub returns-in-Ok-clause-world : goal.returns-in-Ok-clause-world
returns-in-Ok-clause-world c = λ all.
    subst (λ (boxes : List Box3). All BoxInWorld boxes) (sym c.in-Ok.ensures) (boxes_in_world c.args.tris.now all)
