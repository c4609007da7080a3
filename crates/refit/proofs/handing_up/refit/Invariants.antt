use Rattle.arrival_core.specs.Settings.{setting}
use Rattle.refit.specs.Putting.{IsPutting}
use Rattle.refit.proofs.handing_up.refit.Given as goal

abbrev pub invariant-loop-i : goal.invariant-loop-i
invariant-loop-i g l = IsPutting (setting l.fn.tree.keys l.boxes l.live l.workers) l.fn.tree.nodes l.tree l.i
