use Rattle.std.proofs.Common.{ap, set}
use Rattle.std.proofs.lemmas.List.{get_or_default}
use Rattle.arrival_core.specs.Forks.{fork_at}
use Rattle.arrival_core.proofs.forks.put_branch.Goals as goal

pub returns-in-Left : goal.returns-in-Left
unfolding fork_at
returns-in-Left c = rw c.in-Left.is (ap (λ y. set c.args.forks.now c.args.split (record y { left = c.args.x }))
    (get_or_default c.args.forks.now c.args.split c.index-forks-split.result _ c.requires))

pub returns-in-Right : goal.returns-in-Right
unfolding fork_at
returns-in-Right c = rw c.in-Right.is (ap (λ y. set c.args.forks.now c.args.split (record y { right = c.args.x }))
    (get_or_default c.args.forks.now c.args.split c.index-forks-split-in-Right.result _ c.requires))
