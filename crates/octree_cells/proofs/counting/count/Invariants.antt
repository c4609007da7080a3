use Rattle.std.proofs.Common.{◌≡◌, ◌+◌, ◌-◌, ◌*◌, ◌≤◌, length}
use Rattle.morton_key.specs.declared.keys.TheConstants.{LEVELS}
use Rattle.octree_cells.proofs.Beginnings.{levels_at, begun}
use Rattle.octree_cells.proofs.counting.count.Given as goal

abbrev pub invariant-loop-i : goal.invariant-loop-i
invariant-loop-i l = record {
  sum : l.total ≡ begun l.keys LEVELS (l.i - 1);
  own : l.before ≡ levels_at l.keys (l.i - 1);
  few : l.total ≤ (1 + LEVELS) * l.i;
  end : l.i ≤ 1 + (length l.keys - 1);
}
