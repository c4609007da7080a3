use Rattle.std.proofs.Common.{◌≡◌, ℕ, ◌<◌, false}
use Rattle.morton_key.specs.Keys.{tri_at}
use Rattle.radix_tree.specs.Fit.{box_of_triangle}
use Rattle.arrival_core.specs.Settings.{live_in}
use Rattle.refit.proofs.handing_up.tests.agree.Given as goal

abbrev pub invariant-loop-p : goal.invariant-loop-p
invariant-loop-p l = (q : ℕ) → q < l.p → live_in l.live q q ≡ false →
    box_of_triangle l.before (tri_at l.tree.keys q) ≡ box_of_triangle l.after (tri_at l.tree.keys q)
