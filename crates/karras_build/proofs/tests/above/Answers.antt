use Rattle.radix_tree.proofs.NumberLaws.{range_of_node}
use Rattle.karras_build.proofs.LinkLaws.{span_is}
use Rattle.karras_build.proofs.tests.above.Goals as goal

pub parent-requires : goal.parent-requires
parent-requires c =
    (_, c.requires.ends, range_of_node _ c.requires.lawful (span_is _ _ _ _ c.requires.spans c.requires.within).range)
