use Rattle.std.proofs.Common.{ℕ, ◌<◌, ◌≤◌, length, get_or}
use Rattle.world_index.specs.Fans.{HasVertex, face_at}
use Rattle.world_index.specs.Kept.{IsRight}
use Rattle.world_index.proofs.mending.fit_moved.Given as goal

-- all triangles that use none of the vertices still to come are fitted
abbrev pub invariant-loop-vertex : goal.invariant-loop-vertex
invariant-loop-vertex l = (t : ℕ) → t < length l.faces →
    ((k : ℕ) → l.vertex-index ≤ k → k < length l.moved → ¬ HasVertex (face_at l.faces t) (get_or l.moved k 0)) →
    IsRight l.points l.faces l.boxes t
