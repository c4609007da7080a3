use Rattle.std.proofs.Common.{◌-◌}
use Rattle.radix_tree.proofs.building.+fill.Given as goal

abbrev pub decreases-fill : goal.decreases-fill
decreases-fill l = l.last - l.first
