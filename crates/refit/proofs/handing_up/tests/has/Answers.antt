use Rattle.std.proofs.Common.{arith, rules}
use Rattle.std.specs.Prelude.{nat_lt}
use Rattle.std.proofs.lemmas.List.Sorted.{IsPartitionPoint-from_clause, IsPartitionedBy-ltb}
use Rattle.arrival_core.proofs.LiveRanges.{rising_sorted, live_none, live_first}
use Rattle.refit.proofs.handing_up.tests.has.Goals as goal

pub returns-then-at-live : goal.returns-then-at-live
returns-then-at-live c = live_none c.args.live.now c.args.position c.args.position c.partition_point-at.result
    c.requires
    (IsPartitionPoint-from_clause (λ q. nat_lt q c.args.position) _ _ c.partition_point-at.ensures.partitioned
    (IsPartitionedBy-ltb (λ q. q) _ c.args.position (rising_sorted c.args.live.now c.requires))
    (λ a r q k. search rules)) c.if-at-live.true

pub returns : goal.returns
returns c = live_first c.args.live.now c.args.position c.args.position c.partition_point-at.result c.requires
    (IsPartitionPoint-from_clause (λ q. nat_lt q c.args.position) _ _ c.partition_point-at.ensures.partitioned
    (IsPartitionedBy-ltb (λ q. q) _ c.args.position (rising_sorted c.args.live.now c.requires))
    (λ a r q k. search rules)) (omega arith)
