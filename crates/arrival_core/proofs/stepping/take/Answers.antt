use Rattle.std.proofs.Common.{◌<◌, arith, length}
use Rattle.arrival_core.specs.Forks.{climber_at, claimed_at}
use Rattle.arrival_core.proofs.ClimberLaws.{parts_set}
use Rattle.arrival_core.proofs.StateLaws.{take_shown}
use Rattle.arrival_core.specs.Terrains.{frame_at}
use Rattle.arrival_core.specs.Settings.{frame_of}
use Rattle.arrival_core.proofs.stepping.take.Goals as goal

pub returns-clause-state : goal.returns-clause-state
unfolding frame_of claimed_at
returns-clause-state c = λ workers forks.
    let e = c.climber_of-climber.ensures in
    let inside : (climber_at c.args.climbers.now c.args.k).next < length c.args.claimed.now
    = omega (arith, c.requires.next, c.requires.batches) in
    rw e (take_shown (frame_at c.args.g.now workers) c.args.g.now.live.now c.args.claimed.now forks c.args.climbers.now
    c.args.k c.after_taking.result c.requires.worker inside
    (rw (← e) (c.after_taking.ensures.value workers)))

pub returns-clause-parts : goal.returns-clause-parts
returns-clause-parts c = λ j old. parts_set (length c.args.g.now.live.now) c.args.climbers.now c.args.k
    c.after_taking.result c.requires.worker
    (record { order = c.after_taking.ensures.part; within = c.after_taking.ensures.within }) j old
