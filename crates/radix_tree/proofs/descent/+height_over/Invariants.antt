use Rattle.radix_tree.specs.Filling.{span_of}
use Rattle.radix_tree.proofs.descent.+height_over.Given as goal

abbrev pub decreases-height_over : goal.decreases-height_over
decreases-height_over l = span_of l.t.now l.child
