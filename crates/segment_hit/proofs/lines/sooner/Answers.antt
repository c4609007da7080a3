use Rattle.std.proofs.Common.{arith}
use Rattle.std.proofs.lemmas.Int.{ints}
use Rattle.segment_hit.proofs.Passages.{sooner_first, sooner_second}
use Rattle.segment_hit.proofs.lines.sooner.Goals as goal

pub returns-then-a-b : goal.returns-then-a-b
returns-then-a-b c = sooner_first c.args.a c.args.b (omega (arith, ints, c.if-a-b.true))

pub returns-else-a-b : goal.returns-else-a-b
returns-else-a-b c = sooner_second c.args.a c.args.b (omega (arith, ints, c.if-a-b.false))
