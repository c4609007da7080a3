use Rattle.radix_tree.specs.Filling.{span_of}
use Rattle.refit.proofs.refitting.+fit_under.Given as goal

abbrev pub decreases-fit_under : goal.decreases-fit_under
decreases-fit_under l = span_of l.tree.now l.child
