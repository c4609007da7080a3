use Rattle.std.proofs.Common.{rules, ltb}
use Rattle.std.proofs.lemmas.List.Sorted.{IsPartitionPoint-from_clause}
use Rattle.walk_list.proofs.Mended.{parted_below, none_between, none_behind}
use Rattle.walk_list.proofs.mending.holds.Goals as goal

pub returns-then-next-moved : goal.returns-then-next-moved
returns-then-next-moved c =
    let point = IsPartitionPoint-from_clause (λ x. ltb x c.args.first) _ _ c.partition_point-next.ensures.partitioned
    (parted_below c.args.moved.now c.args.first c.requires) (λ a r q k. search rules) in
    none_between c.args.moved.now c.args.first c.args.end c.partition_point-next.result point.0 c.requires

pub returns-else-next-moved : goal.returns-else-next-moved
returns-else-next-moved c =
    let point = IsPartitionPoint-from_clause (λ x. ltb x c.args.first) _ _ c.partition_point-next.ensures.partitioned
    (parted_below c.args.moved.now c.args.first c.requires) (λ a r q k. search rules) in
    none_behind c.args.moved.now c.args.first c.args.end c.partition_point-next.result point.0
