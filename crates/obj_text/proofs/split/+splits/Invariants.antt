use Rattle.std.proofs.Common.{◌+◌, ◌*◌, length}
use Rattle.obj_text.proofs.split.+splits.Given as goal

abbrev pub decreases-read_sections : goal.decreases-read_sections
decreases-read_sections g l = 2 * length l.sections.now

abbrev pub decreases-first : goal.decreases-first
decreases-first g l = 2 * length l.left.now + 1

abbrev pub decreases-second : goal.decreases-second
decreases-second g l = 2 * length l.right.now + 1
