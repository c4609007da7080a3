use Rattle.std.proofs.Common.{ℕ, ◌-◌, ◌<◌, ◌≤◌, length}
use Rattle.world_index.specs.Fans.{HasVertex, face_at}
use Rattle.world_index.specs.Kept.{IsRight}
use Rattle.world_index.proofs.mending.fit_fan.Given as goal

-- the triangles of the vertex from the next one on are fitted, and none is spoilt
abbrev pub invariant-loop-next : goal.invariant-loop-next
invariant-loop-next l = record {
  within : l.next ≤ length l.faces;
  uses : 0 < l.next → HasVertex (face_at l.faces (l.next - 1)) l.vertex;
  done : (t : ℕ) → t < length l.faces → HasVertex (face_at l.faces t) l.vertex → l.next ≤ t →
      IsRight l.points l.faces l.boxes t;
  kept : (t : ℕ) → t < length l.faces → IsRight l.points l.faces l.initial.boxes t →
      IsRight l.points l.faces l.boxes t;
}

abbrev pub decreases-loop-next : goal.decreases-loop-next
decreases-loop-next l = l.next
