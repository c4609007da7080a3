use Rattle.box_handoff.specs.Ends.{AreEndsBelow}
use Rattle.box_handoff.proofs.tree_ways.TreeWays.of.Given as goal

abbrev pub invariant-loop-i : goal.invariant-loop-i
invariant-loop-i l = AreEndsBelow l.tree.keys l.first.items l.last.items l.i
