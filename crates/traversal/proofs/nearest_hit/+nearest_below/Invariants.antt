use Rattle.radix_tree.specs.Filling.{span_of}
use Rattle.traversal.proofs.nearest_hit.+nearest_below.Given as goal

abbrev pub decreases-nearest_below : goal.decreases-nearest_below
decreases-nearest_below g l = span_of l.t.now l.way.child
