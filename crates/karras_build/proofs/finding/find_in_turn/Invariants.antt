use Rattle.karras_build.proofs.SpanLists.{AreBegun}
use Rattle.karras_build.proofs.finding.find_in_turn.Given as goal

abbrev pub invariant-loop-i : goal.invariant-loop-i
invariant-loop-i l = AreBegun l.keys l.list l.i
