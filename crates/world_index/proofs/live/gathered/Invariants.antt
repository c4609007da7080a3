use Rattle.world_index.specs.Live.{AreOfFans}
use Rattle.world_index.proofs.live.gathered.Given as goal

abbrev pub invariant-loop-vertex : goal.invariant-loop-vertex
invariant-loop-vertex l = AreOfFans l.faces l.positions l.moved l.vertex-index l.live.items
