use Rattle.std.proofs.Common.{ap}
use Rattle.arrival_core.proofs.ForkLaws.{fork_is}
use Rattle.arrival_core.proofs.forks.branch_at.Goals as goal

pub returns-in-Left : goal.returns-in-Left
returns-in-Left c = rw c.in-Left.is (ap (λ x. x.left)
    (fork_is c.args.forks.now c.args.split c.index-forks-split.result c.requires c.index-forks-split.is))

pub returns-in-Right : goal.returns-in-Right
returns-in-Right c = rw c.in-Right.is (ap (λ x. x.right)
    (fork_is c.args.forks.now c.args.split c.index-forks-split.result c.requires c.index-forks-split.is))
