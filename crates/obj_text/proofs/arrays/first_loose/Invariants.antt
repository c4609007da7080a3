use Rattle.std.specs.Prelude.{take}
use Rattle.std.specs.List.{All}
use Rattle.obj_text.specs.Meshes.{IsFaceOf}
use Rattle.obj_text.proofs.arrays.first_loose.Given as goal

abbrev pub invariant-loop-place : goal.invariant-loop-place
invariant-loop-place l = All (IsFaceOf l.points) (take l.place l.faces)
