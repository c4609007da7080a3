use Rattle.std.specs.Prelude.{take}
use Rattle.std.specs.List.{All}
use Rattle.obj_text.specs.Meshes.{IsPlaceIn}
use Rattle.obj_text.proofs.arrays.first_ungrouped.Given as goal

abbrev pub invariant-loop-place : goal.invariant-loop-place
invariant-loop-place l = All (IsPlaceIn l.groups) (take l.place l.group_of)
