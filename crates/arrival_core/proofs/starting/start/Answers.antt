use Rattle.std.proofs.Common.{arith}
use Rattle.arrival_core.proofs.TerrainLaws.{rising_short}
use Rattle.arrival_core.proofs.starting.start.Goals as goal

pub overflow_cast-g : goal.overflow_cast-g
overflow_cast-g c =
    let short = rising_short c.args.live.now _ c.requires.task.rising c.requires.task.within in
    omega (arith, short, c.requires.task.lawful.few, c.div_ceil.ensures)
