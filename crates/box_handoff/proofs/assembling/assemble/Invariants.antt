use Rattle.box_handoff.specs.Assembling.{IsWriting}
use Rattle.box_handoff.proofs.assembling.assemble.Given as goal

abbrev pub invariant-loop-t : goal.invariant-loop-t
invariant-loop-t l = IsWriting l.keys.items l.fitted l.t l.nodes.items
