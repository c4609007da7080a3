use Rattle.radix_tree.specs.Filling.{span_of}
use Rattle.box_handoff.proofs.laying.+lay_under.Given as goal

abbrev pub decreases-lay_under : goal.decreases-lay_under
decreases-lay_under l = span_of l.m.now.tree.now l.child
