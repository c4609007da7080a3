use Rattle.std.proofs.Common.{◌+◌, ◌*◌}
use Rattle.obj_text.proofs.sections.+cuts.Given as goal

abbrev pub decreases-cut : goal.decreases-cut
decreases-cut g l = 2 * l.levels

abbrev pub decreases-first : goal.decreases-first
decreases-first g l = 2 * l.below + 1

abbrev pub decreases-second : goal.decreases-second
decreases-second g l = 2 * l.below + 1
