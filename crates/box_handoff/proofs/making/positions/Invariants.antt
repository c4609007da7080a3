use Rattle.box_handoff.specs.Made.{ArePositions}
use Rattle.box_handoff.proofs.making.positions.Given as goal

abbrev pub invariant-loop-i : goal.invariant-loop-i
invariant-loop-i l = ArePositions l.i l.list.items
