use Rattle.radix_tree.specs.Filling.{span_of}
use Rattle.octree_cells.proofs.listing.+collect.Given as goal

abbrev pub decreases-collect : goal.decreases-collect
decreases-collect l = span_of l.t.now l.child
