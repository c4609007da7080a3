use Rattle.radix_tree.specs.Filling.{span_of}
use Rattle.traversal.proofs.counted.+count_below.Given as goal

abbrev pub decreases-count_below : goal.decreases-count_below
decreases-count_below l = span_of l.t.now l.child
