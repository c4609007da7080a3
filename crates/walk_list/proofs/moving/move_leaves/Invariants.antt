use Rattle.std.proofs.Common.{take}
use Rattle.walk_list.specs.Stale.{Moves}
use Rattle.walk_list.proofs.moving.move_leaves.Given as goal

abbrev pub invariant-loop-position : goal.invariant-loop-position
invariant-loop-position l = Moves l.boxes (take l.position-index l.moved) l.initial.leaves l.leaves
