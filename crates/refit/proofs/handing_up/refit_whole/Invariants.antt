use Rattle.refit.specs.Putting.{IsRenewing}
use Rattle.refit.proofs.handing_up.refit_whole.Given as goal

abbrev pub invariant-loop-number : goal.invariant-loop-number
invariant-loop-number g l = IsRenewing l.fn.tree.keys l.boxes l.tree l.number
