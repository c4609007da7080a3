use Rattle.std.proofs.Common.{arith}
use Rattle.arrival_core.proofs.TerrainLaws.{rising_short, batch_part}
use Rattle.arrival_core.proofs.resuming.after_taking.Goals as goal

pub overflow_cast-from-2 : goal.overflow_cast-from-2
overflow_cast-from-2 c =
    let short = rising_short c.args.g.now.live.now _ c.requires.terrain.task.rising c.requires.terrain.task.within in
    omega (arith, short, c.requires.terrain.table.lawful.few, c.requires.next)

pub overflow_cast-to : goal.overflow_cast-to
overflow_cast-to c =
    let short = rising_short c.args.g.now.live.now _ c.requires.terrain.task.rising c.requires.terrain.task.within in
    omega (arith, short, c.requires.terrain.table.lawful.few, c.min-to.ensures)

pub returns-clause-value : goal.returns-clause-value
returns-clause-value c = λ workers.
    let part = batch_part c.args.g.now.live.now c.args.was.next c.min-to.result (omega (arith, c.requires.next))
    c.min-to.ensures in
    rw c.if-claimed.false (rw (← part) (rw (← c.one_step-tally.ensures) (c.resumed-2.ensures.value workers)))
