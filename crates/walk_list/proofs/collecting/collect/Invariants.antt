use Rattle.std.proofs.Common.{◌≡◌, ◌++◌, ◌-◌, length}
use Rattle.walk_list.specs.Leaves.{met_between}
use Rattle.walk_list.specs.Parts.{StandsAt}
use Rattle.walk_list.proofs.collecting.collect.Given as goal

abbrev pub invariant-loop-at : goal.invariant-loop-at
invariant-loop-at l = record {
  stands : StandsAt l.leaves l.records l.at l.position;
  added : l.numbers.items ≡ l.initial.numbers.items ++ met_between l.leaves l.q 0 l.position;
}

abbrev pub decreases-loop-at : goal.decreases-loop-at
decreases-loop-at l = length l.records - l.at
