use Rattle.std.specs.Prelude.{take}
use Rattle.std.specs.List.{All}
use Rattle.fixed_box.specs.World.{InWorld}
use Rattle.obj_text.proofs.arrays.first_outside.Given as goal

abbrev pub invariant-loop-place : goal.invariant-loop-place
invariant-loop-place l = All InWorld (take l.place l.points)
