use Rattle.world_index.specs.Fans.{AreFansTo}
use Rattle.world_index.proofs.fans.chained.Given as goal

abbrev pub invariant-loop-triangle : goal.invariant-loop-triangle
invariant-loop-triangle l = AreFansTo l.latest.items l.earlier.items l.faces l.vertices l.triangle
