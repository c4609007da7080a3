use Rattle.std.proofs.Common.{◌≡◌, All, vec_len}
use Rattle.fixed_box.specs.World.{BoxInWorld}
use Rattle.octree_cells.proofs.tests.scattered.Given as goal

abbrev pub invariant-loop : goal.invariant-loop
invariant-loop l = (vec_len l.boxes ≡ l.counter) × All BoxInWorld l.boxes.items
