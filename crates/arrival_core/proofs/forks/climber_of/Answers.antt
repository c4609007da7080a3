use Rattle.arrival_core.proofs.ClimberLaws.{climber_is}
use Rattle.arrival_core.proofs.forks.climber_of.Goals as goal

pub returns : goal.returns
returns c = climber_is c.args.climbers.now c.args.worker c.index-climbers-worker.result c.requires
    c.index-climbers-worker.is
