use Rattle.std.proofs.Common.{ap, set, true}
use Rattle.std.proofs.lemmas.List.{get_or_default}
use Rattle.arrival_core.specs.Forks.{fork_at}
use Rattle.arrival_core.proofs.forks.put_returned.Goals as goal

pub returns : goal.returns
unfolding fork_at
returns c = ap (λ y. set c.args.forks.now c.args.split (record y { returned = true }))
    (get_or_default c.args.forks.now c.args.split c.index-forks-split.result _ c.requires)
