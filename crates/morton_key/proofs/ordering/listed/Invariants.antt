use Rattle.std.proofs.Common.{◌≡◌, ◌+◌, ◌++◌, drop}
use Rattle.morton_key.specs.Order.{keys_from}
use Rattle.morton_key.proofs.ordering.listed.Given as goal

abbrev pub invariant-loop-i : goal.invariant-loop-i
invariant-loop-i l = l.keys.items ++ keys_from (l.i + 1) (drop l.i l.boxes) ≡ keys_from 1 l.boxes
