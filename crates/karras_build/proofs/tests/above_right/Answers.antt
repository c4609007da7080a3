use Rattle.std.proofs.Common.{arith}
use Rattle.radix_tree.proofs.NodeLaws.{node_within, split_high}
use Rattle.karras_build.proofs.LinkLaws.{span_is, right_range}
use Rattle.karras_build.proofs.tests.above_right.Goals as goal

pub overflow_add-span : goal.overflow_add-span
overflow_add-span c = let ok = c.requires.lawful in
    let s = span_is _ _ _ (record { first = 0; last = 0; split = 0 }) c.requires.spans c.requires.within in
    omega (arith, s.part, split_high _ ok s.range, node_within _ ok s.range, ok.few)

pub parent-requires : goal.parent-requires
parent-requires c =
    (_, c.requires.ends, right_range _ c.requires.lawful _ _ _ c.requires.spans c.requires.within)
