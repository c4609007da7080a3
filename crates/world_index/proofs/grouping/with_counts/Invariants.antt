use Rattle.std.proofs.Common.{◌≡◌, ◌++◌, drop}
use Rattle.world_index.specs.Grouping.{side_by_side}
use Rattle.world_index.proofs.grouping.with_counts.Given as goal

abbrev pub invariant-loop-i : goal.invariant-loop-i
invariant-loop-i l = l.list.items ++ side_by_side (drop l.i l.names) (drop l.i l.counts) ≡ side_by_side l.names l.counts
