use Rattle.std.proofs.Common.{arith}
use Rattle.std.proofs.lemmas.Int.{ints, to_z-of_z}
use Rattle.world_engine.specs.Workload.{over_place}
use Rattle.world_engine.proofs.workload.over_place.Goals as goal

pub returns-clause-value : goal.returns-clause-value
unfolding over_place
returns-clause-value c =
    search (arith, ints, to_z-of_z, c.spread.ensures.value, c.spread-2.ensures.value)
