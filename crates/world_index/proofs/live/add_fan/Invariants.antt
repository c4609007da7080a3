use Rattle.std.proofs.Common.{◌-◌, ◌<◌, ◌≤◌, length}
use Rattle.world_index.specs.Fans.{HasVertex, face_at}
use Rattle.world_index.specs.Live.{AddsFan}
use Rattle.world_index.proofs.live.add_fan.Given as goal

-- the positions of the vertex's triangles from the next one on are added
abbrev pub invariant-loop-next : goal.invariant-loop-next
invariant-loop-next l = record {
  within : l.next ≤ length l.faces;
  uses : 0 < l.next → HasVertex (face_at l.faces (l.next - 1)) l.vertex;
  added : AddsFan l.faces l.positions l.vertex l.next l.initial.live.items l.live.items;
}

abbrev pub decreases-loop-next : goal.decreases-loop-next
decreases-loop-next l = l.next
