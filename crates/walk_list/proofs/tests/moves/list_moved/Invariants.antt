use Rattle.walk_list.specs.Stale.{ListsMoved}
use Rattle.walk_list.proofs.tests.moves.list_moved.Given as goal

abbrev pub invariant-loop-position : goal.invariant-loop-position
invariant-loop-position l = ListsMoved l.leaves l.boxes l.position l.moved.items
