use Rattle.std.proofs.Common.{◌-◌, length}
use Rattle.walk_list.proofs.nearest_hit.+look_below.Given as goal

abbrev pub decreases-look_below : goal.decreases-look_below
decreases-look_below g l = length l.f.now.records - l.v.at
