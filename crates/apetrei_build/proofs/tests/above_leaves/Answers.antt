use Rattle.std.proofs.Common.{arith}
use Rattle.arrival_core.proofs.SplitNames.{leaf_range}
use Rattle.apetrei_build.proofs.tests.above_leaves.Goals as goal

pub parent-requires : goal.parent-requires
parent-requires c = (
  c.args.keys.now,
  c.requires,
  leaf_range c.args.keys.now c.requires.lawful c.loop-position.position (omega arith),
)
