use Rattle.std.proofs.Common.{arith, rules}
use Rattle.std.specs.Prelude.{nat_lt}
use Rattle.std.proofs.lemmas.List.Sorted.{IsPartitionPoint-from_clause, IsPartitionedBy-ltb}
use Rattle.arrival_core.proofs.LiveRanges.{rising_sorted, live_none, live_first}
use Rattle.box_handoff.proofs.laying.is_live.Goals as goal

pub returns-then-at-live : goal.returns-then-at-live
returns-then-at-live c = live_none c.args.live.now c.args.first c.args.last c.partition_point-at.result
    c.requires.rising
    (IsPartitionPoint-from_clause (λ q. nat_lt q c.args.first) _ _ c.partition_point-at.ensures.partitioned
    (IsPartitionedBy-ltb (λ q. q) _ c.args.first (rising_sorted c.args.live.now c.requires.rising))
    (λ a r q k. search rules)) c.if-at-live.true

pub returns : goal.returns
returns c = live_first c.args.live.now c.args.first c.args.last c.partition_point-at.result c.requires.rising
    (IsPartitionPoint-from_clause (λ q. nat_lt q c.args.first) _ _ c.partition_point-at.ensures.partitioned
    (IsPartitionedBy-ltb (λ q. q) _ c.args.first (rising_sorted c.args.live.now c.requires.rising))
    (λ a r q k. search rules)) (omega arith)
