use Rattle.std.proofs.Common.{arith}
use Rattle.morton_key.specs.Keys.{code_at, key_at}
use Rattle.octree_cells.specs.Levels.{shared_level}
use Rattle.octree_cells.proofs.SharedBits.{zeros_before}
use Rattle.octree_cells.proofs.sharing.shared_level.Goals as goal

pub overflow_sub-result-2 : goal.overflow_sub-result-2
unfolding code_at key_at
overflow_sub-result-2 c =
    omega (
      arith,
      zeros_before c.args.keys.now c.requires.lawful c.args.i c.args.j c.requires.first c.requires.second,
    )

pub returns-clause-value : goal.returns-clause-value
unfolding code_at key_at shared_level
returns-clause-value c =
    omega (
      arith,
      zeros_before c.args.keys.now c.requires.lawful c.args.i c.args.j c.requires.first c.requires.second,
    )
