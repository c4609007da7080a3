use Rattle.radix_tree.specs.Filling.{span_of}
use Rattle.walk_list.proofs.listing.+list_below.Given as goal

abbrev pub decreases-list_below : goal.decreases-list_below
decreases-list_below l = span_of l.t.now l.child
