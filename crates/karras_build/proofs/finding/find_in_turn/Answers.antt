use Rattle.std.proofs.Common.{arith}
use Rattle.karras_build.proofs.SpanLists.{one_more}
use Rattle.karras_build.proofs.finding.find_in_turn.Goals as goal

pub loop-i-preserved : goal.loop-i-preserved
loop-i-preserved c = one_more c.args.keys.now c.loop-i.list c.loop-i.i _ (omega arith) c.loop-i.invariant c.find.ensures
