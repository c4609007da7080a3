use Rattle.std.proofs.Common.{◌∙◌, length, ap, ap₂}
use Rattle.world_index.proofs.GroupCounts.{length-counts, groups_counted}
use Rattle.world_index.specs.Worlds.{groups_from}
use Rattle.world_index.specs.Grouping.{side_by_side}
use Rattle.world_index.proofs.grouping.group_list.Goals as goal

pub with_counts-requires : goal.with_counts-requires
with_counts-requires c =
    ap length (c.deref.ensures.value ∙ c.in_ok-counts.ensures)
    ∙ length-counts 0 (length c.as_slice-names.result.now) c.group_of.result.now

pub returns : goal.returns
returns c =
    let names = c.as_slice-names.ensures.keys ∙ c.groups.ensures.names in
    c.new.ensures ∙ c.in_ok-list.ensures
    ∙ ap (side_by_side c.as_slice-names.result.now) (c.deref.ensures.value ∙ c.in_ok-counts.ensures)
    ∙ groups_counted 0 c.as_slice-names.result.now c.group_of.result.now
    ∙ ap₂ (λ ns xs. groups_from 0 ns xs) names c.group_of.ensures.group_of
