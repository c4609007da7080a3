use Rattle.std.proofs.Common.{rules, subst, sym, take, leb}
use Rattle.std.proofs.lemmas.List.Sorted.{IsPartitionPoint-from_clause, IsPartitionedBy-leb}
use Rattle.refit.specs.Stale.{AreParted}
use Rattle.refit.proofs.Parting.{parted_at}
use Rattle.refit.proofs.refitting.parted.Goals as goal

pub returns : goal.returns
returns c =
    let moved = c.args.moved.now in
    let s = c.args.split in
    let point = IsPartitionPoint-from_clause (λ x. leb x s) _ _ c.partition_point.ensures.partitioned
    (IsPartitionedBy-leb (λ x. x) moved s c.requires) (λ a r q k. search rules) in
    subst (λ l. AreParted moved s l c.split_at.result.1.now) (sym c.split_at.ensures.front)
    (subst (λ l. AreParted moved s (take c.partition_point.result moved) l) (sym c.split_at.ensures.back)
    (parted_at moved s c.partition_point.result c.requires point.0 point.1))
