use Rattle.std.proofs.Common.{arith}
use Rattle.morton_key.specs.Keys.{code_at, key_at}
use Rattle.morton_key.proofs.KeyLaws.{measure_same_code, measure_other_code}
use Rattle.morton_key.proofs.agreement.common_prefix.Goals as goal

pub overflow_sub-result-else-one-other-2 : goal.overflow_sub-result-else-one-other-2
unfolding code_at key_at
overflow_sub-result-else-one-other-2 c =
    omega (
      arith,
      measure_other_code c.args.keys.now c.requires.lawful c.args.i c.args.j c.requires.first
          c.requires.second c.if-one-other.false,
    )

pub returns-then-one-other-clause-value : goal.returns-then-one-other-clause-value
unfolding code_at key_at
returns-then-one-other-clause-value c =
    omega (
      arith,
      measure_same_code c.args.keys.now c.requires.lawful c.args.i c.args.j c.requires.first
          c.requires.second c.if-one-other.true,
    )

pub returns-else-one-other-clause-value : goal.returns-else-one-other-clause-value
unfolding code_at key_at
returns-else-one-other-clause-value c =
    omega (
      arith,
      measure_other_code c.args.keys.now c.requires.lawful c.args.i c.args.j c.requires.first
          c.requires.second c.if-one-other.false,
    )
