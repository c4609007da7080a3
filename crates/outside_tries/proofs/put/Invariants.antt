use Rattle.std.proofs.Common.{length}
use Rattle.outside_tries.proofs.put.Given as goal

-- each call of the sink takes a byte
abbrev pub decreases-loop-rest : goal.decreases-loop-rest
decreases-loop-rest g l = length l.rest
