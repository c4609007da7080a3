use Rattle.std.proofs.Common.{ap, set}
use Rattle.arrival_core.specs.Events.{stepped}
use Rattle.arrival_core.proofs.stepping.go_on.Goals as goal

pub returns : goal.returns
returns c =
    let e = c.climber_of-was.ensures in
    rw c.one_step.ensures (ap (λ x. set c.args.climbers.now c.args.k
    (record x { phase = c.args.phase; tally = stepped x.tally })) e)
