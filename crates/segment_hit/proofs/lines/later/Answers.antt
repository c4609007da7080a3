use Rattle.std.proofs.Common.{arith}
use Rattle.std.proofs.lemmas.Int.{ints}
use Rattle.segment_hit.proofs.Passages.{later_second, later_first}
use Rattle.segment_hit.proofs.lines.later.Goals as goal

pub returns-then-a-b : goal.returns-then-a-b
returns-then-a-b c = later_second c.args.a c.args.b (omega (arith, ints, c.if-a-b.true))

pub returns-else-a-b : goal.returns-else-a-b
returns-else-a-b c = later_first c.args.a c.args.b (omega (arith, ints, c.if-a-b.false))
