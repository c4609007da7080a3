use Rattle.std.proofs.Common.{arith}
use Rattle.std.proofs.lemmas.List.Elements.{All-push}
use Rattle.fixed_box.specs.World.{BoxInWorld}
use Rattle.octree_cells.proofs.tests.scattered.Goals as goal

pub loop-preserved : goal.loop-preserved
loop-preserved c = (
  omega (arith, c.in_ok-push.ensures.len),
  rw c.in_ok-push.ensures.items
      (All-push BoxInWorld c.loop.boxes.items c.scattered_box.result c.loop.invariant.1 c.scattered_box.ensures),
)
