use Rattle.std.proofs.Common.{length}
use Rattle.walk_list.proofs.mending.+mend.Given as goal

abbrev pub decreases-mend : goal.decreases-mend
decreases-mend l = length l.records.now
