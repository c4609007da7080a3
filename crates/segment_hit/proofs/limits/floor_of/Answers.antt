use Rattle.segment_hit.proofs.Floors.{floor_is, floor_low, floor_most}
use Rattle.segment_hit.proofs.limits.floor_of.Goals as goal

pub returns-clause-floor : goal.returns-clause-floor
returns-clause-floor c = rw (c.from.ensures, c.from-2.ensures, c.from-3.ensures)
    (floor_is c.args.n c.args.w c.args.d c.requires.above)

pub returns-clause-most : goal.returns-clause-most
returns-clause-most c = rw (c.from.ensures, c.from-2.ensures, c.from-3.ensures)
    (floor_most c.args.n c.args.w c.args.d c.requires.part)

pub returns-clause-low : goal.returns-clause-low
returns-clause-low c = rw (c.from.ensures, c.from-2.ensures, c.from-3.ensures)
    (floor_low c.args.n c.args.w c.args.d c.requires.above)
