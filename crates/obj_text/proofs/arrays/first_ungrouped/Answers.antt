use Rattle.std.proofs.lemmas.List.Elements.{All-more}
use Rattle.obj_text.specs.Meshes.{IsPlaceIn}
use Rattle.obj_text.proofs.arrays.first_ungrouped.Goals as goal

pub loop-place-preserved : goal.loop-place-preserved
loop-place-preserved c =
    All-more (IsPlaceIn c.args.groups) c.args.group_of.now c.loop-place.place _ c.loop-place-test.true c.loop-place.invariant
    c.if-groups-group_of.false
