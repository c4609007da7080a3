use Rattle.std.proofs.Common.{◌≡◌, map, take}
use Rattle.walk_list.specs.Leaves.{leaf_of}
use Rattle.walk_list.proofs.listing.leaves_of.Given as goal

abbrev pub invariant-loop-position : goal.invariant-loop-position
invariant-loop-position l = l.leaves.items ≡ map (leaf_of l.boxes) (take l.position l.keys)
