use Rattle.std.proofs.Common.{refl, ap}
use Rattle.arrival_core.proofs.StateLaws.{open_shown}
use Rattle.arrival_core.proofs.ClimberLaws.{parts_kept}
use Rattle.arrival_core.proofs.stepping.open.Goals as goal

pub returns-clause-state : goal.returns-clause-state
returns-clause-state c = λ live claimed.
    rw c.put_branch.ensures (rw c.go_on.ensures
    (open_shown live claimed c.args.forks.now c.args.climbers.now c.args.k c.args.l _ c.requires.node c.requires.worker
    refl (ap (λ x. x.arrived) c.branch_at-was.ensures) (ap (λ x. x.collected) c.branch_at-was.ensures) refl))

pub returns-clause-parts : goal.returns-clause-parts
returns-clause-parts c = λ n j old. rw c.go_on.ensures
    (parts_kept n c.args.climbers.now c.args.k _ c.requires.worker refl refl j old)
