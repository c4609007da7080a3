use Rattle.std.proofs.Common.{◌<◌, length, ap, subst, sym, ◌∙◌}
use Rattle.std.proofs.lemmas.List.{get_or_default}
use Rattle.walk_list.specs.Records.{record_at, no_record}
use Rattle.walk_list.proofs.nearest_hit.record_of.Goals as goal

pub returns : goal.returns
unfolding record_at
returns c =
    c.index-records-at.is
    ∙ (get_or_default c.records.result.now c.args.at _ no_record
    (subst (λ xs. c.args.at < length xs) (sym c.records.ensures.records) c.requires)
    ∙ ap (λ xs. record_at xs c.args.at) c.records.ensures.records)
