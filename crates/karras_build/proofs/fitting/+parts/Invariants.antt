use Rattle.std.proofs.Common.{◌+◌, ◌-◌, ◌*◌}
use Rattle.karras_build.proofs.fitting.+parts.Given as goal

abbrev pub decreases-fit_left : goal.decreases-fit_left
decreases-fit_left g l = 8 * (l.last - l.first) + 7

abbrev pub decreases-fit_right : goal.decreases-fit_right
decreases-fit_right g l = 8 * (l.last - l.first) + 7

abbrev pub decreases-fit_below : goal.decreases-fit_below
decreases-fit_below g l = 8 * (l.cut.last - l.cut.first) + 6

abbrev pub decreases-fit_halves : goal.decreases-fit_halves
decreases-fit_halves g l = 8 * (l.cut.last - l.cut.first) + 5

abbrev pub decreases-fit_joined_halves : goal.decreases-fit_joined_halves
decreases-fit_joined_halves g l = 8 * (l.cut.last - l.cut.first) + 4

abbrev pub decreases-fit_joined_halves-low : goal.decreases-fit_joined_halves-low
decreases-fit_joined_halves-low g l = 8 * (l.cut-split - l.cut-first) + 8

abbrev pub decreases-fit_joined_halves-high : goal.decreases-fit_joined_halves-high
decreases-fit_joined_halves-high g l = 8 * (l.cut-last - (l.cut-split + 1)) + 8
