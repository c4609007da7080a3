use Rattle.world_index.specs.Live.{ArePositionsTo}
use Rattle.world_index.proofs.positions.placed.Given as goal

abbrev pub invariant-loop-position : goal.invariant-loop-position
invariant-loop-position l = ArePositionsTo l.positions.items l.keys l.position
