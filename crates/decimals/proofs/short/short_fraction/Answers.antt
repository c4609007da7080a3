use Rattle.std.proofs.Common.{rules, ◌<◌, ◌^◌}
use Rattle.decimals.proofs.Runs.{digits_within, digits_count}
use Rattle.decimals.proofs.short.short_fraction.Goals as goal

pub overflow_sub-result : goal.overflow_sub-result
overflow_sub-result c =
    let small : c.digits-value.result.0 < 10 ^ 18 = search rules in
    digits_within _ _ (c.digits-value.ensures.whole small)

pub returns-else-value-ge-FEW-clause-count : goal.returns-else-value-ge-FEW-clause-count
returns-else-value-ge-FEW-clause-count c =
    let small : c.digits-value.result.0 < 10 ^ 18 = search rules in
    let behind = c.in-Some-eq46-default.behind.now in
    search (rules, digits_count behind c.digits-value.result.1.now (c.digits-value.ensures.whole small))
