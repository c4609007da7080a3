use Rattle.std.proofs.Common.{◌≡◌, ◌++◌}
use Rattle.walk_list.specs.Leaves.{met_between}
use Rattle.walk_list.proofs.collecting.test_run.Given as goal

abbrev pub invariant-loop-position : goal.invariant-loop-position
invariant-loop-position l = l.numbers.items ≡ l.initial.numbers.items ++ met_between l.leaves l.q l.first l.position
