use Rattle.std.proofs.Common.{arith}
use Rattle.std.proofs.lemmas.Int.{ints}
use Rattle.morton_key.specs.Codes.{raised}
use Rattle.morton_key.proofs.interleaving.raise.Goals as goal

pub returns-clause-value : goal.returns-clause-value
unfolding raised
returns-clause-value c = omega (arith, ints)
