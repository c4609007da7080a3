use Rattle.std.proofs.Common.{◌≡◌, ℕ, suc, ◌<◌, length, get_or}
use Rattle.morton_key.specs.Measure.{measure}
use Rattle.apetrei_build.proofs.deltas.listed.Given as goal

abbrev pub invariant-loop-i : goal.invariant-loop-i
invariant-loop-i l = (length l.measures.items ≡ l.i)
    × ((k : ℕ) → k < l.i → get_or l.measures.items k 0 ≡ measure l.keys k (suc k))
