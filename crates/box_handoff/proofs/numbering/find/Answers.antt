use Rattle.std.proofs.Common.{rules}
use Rattle.std.specs.Prelude.{nat_lt}
use Rattle.std.proofs.lemmas.List.Sorted.{IsPartitionPoint-from_clause, IsPartitionedBy-ltb}
use Rattle.arrival_core.proofs.LiveRanges.{rising_sorted}
use Rattle.box_handoff.proofs.NumberLaws.{partition_place}
use Rattle.box_handoff.proofs.numbering.find.Goals as goal

pub returns : goal.returns
returns c = partition_place c.args.spots.now c.args.split c.partition_point.result c.requires.rising c.requires.there
    (IsPartitionPoint-from_clause (λ q. nat_lt q c.args.split) _ _ c.partition_point.ensures.partitioned
    (IsPartitionedBy-ltb (λ q. q) _ c.args.split (rising_sorted c.args.spots.now c.requires.rising))
    (λ a r q k. search rules))
