use Rattle.std.proofs.Common.{◌≡◌, take}
use Rattle.world_index.specs.Grouping.{counts_from}
use Rattle.world_index.proofs.grouping.count_faces.Given as goal

abbrev pub invariant-loop-place : goal.invariant-loop-place
invariant-loop-place l = l.counts.items ≡ counts_from 0 l.groups (take l.place-index l.group_of)
