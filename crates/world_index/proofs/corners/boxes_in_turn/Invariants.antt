use Rattle.std.proofs.Common.{◌≡◌, take}
use Rattle.world_index.specs.Worlds.{boxes_at}
use Rattle.world_index.proofs.corners.boxes_in_turn.Given as goal

abbrev pub invariant-loop-face : goal.invariant-loop-face
invariant-loop-face l = l.boxes.items ≡ boxes_at l.points (take l.face-index l.faces)
