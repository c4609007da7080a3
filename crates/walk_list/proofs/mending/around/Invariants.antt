use Rattle.walk_list.specs.Covering.{Bounds}
use Rattle.walk_list.proofs.mending.around.Given as goal

abbrev pub invariant-loop-position : goal.invariant-loop-position
invariant-loop-position l = Bounds l.leaves l.fit l.first l.position
