use Rattle.std.proofs.Common.{rules}
use Rattle.std.proofs.lemmas.List.Elements.{All-more}
use Rattle.fixed_box.specs.World.{InWorld}
use Rattle.obj_text.proofs.arrays.first_outside.Goals as goal

pub loop-place-preserved : goal.loop-place-preserved
loop-place-preserved c =
    All-more InWorld c.args.points.now c.loop-place.place _ c.loop-place-test.true c.loop-place.invariant
    (c.in_world.ensures.0 (search rules))
