use Rattle.std.proofs.Common.{◌≡◌, ◌<◌, ◌≤◌, ℕ, true, false, length, get_or}
use Rattle.world_index.proofs.marks.unflag.Given as goal

abbrev pub invariant-loop-vertex : goal.invariant-loop-vertex
invariant-loop-vertex l =
    (v : ℕ) → get_or l.flags v false ≡ true →
    (k : ℕ) × (l.vertex-index ≤ k) × (k < length l.list) × (get_or l.list k 0 ≡ v)
