use Rattle.std.proofs.Common.{rules}
use Rattle.std.proofs.lemmas.List.Elements.{All-more}
use Rattle.obj_text.specs.Meshes.{IsFaceOf}
use Rattle.obj_text.proofs.arrays.first_loose.Goals as goal

pub loop-place-preserved : goal.loop-place-preserved
loop-place-preserved c =
    All-more (IsFaceOf c.args.points) c.args.faces.now c.loop-place.place _ c.loop-place-test.true c.loop-place.invariant
    (c.is_face_of.ensures.0 (search rules))
