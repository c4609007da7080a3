use Rattle.std.proofs.Common.{◌∙◌, ap, subst, length}
use Rattle.std.specs.Prelude.{not}
use Rattle.arrival_core.specs.Sums.{bit, sum_below}
use Rattle.arrival_core.specs.Forks.{fork_at}
use Rattle.arrival_core.specs.Stopped.{unreturned_count}
use Rattle.arrival_core.specs.Cores.{IsCore}
use Rattle.arrival_core.proofs.CoreLaws.{core_frame, nodes_are, workers_are}
use Rattle.arrival_core.proofs.Waiting.{unreturned_waits, waits_unreturned, ended_claimed}
use Rattle.arrival_core.proofs.cores.unfitted.Goals as goal

pub returns-clause-value : goal.returns-clause-value
unfolding unreturned_count
returns-clause-value c = c.unreturned.ensures
    ∙ (ap (λ fs. sum_below (length fs) (λ t. bit (not (fork_at fs t).returned)))
    (c.as_slice.ensures.value ∙ ap (λ v. v.forks) c.s.view_is)
    ∙ ap (λ n. sum_below n (λ t. bit (not (fork_at c.args.s.now.forks t).returned)))
    (nodes_are c.args.s.now (subst IsCore c.s.view_is c.s.invariant.1)))

pub returns-clause-waits : goal.returns-clause-waits
returns-clause-waits c = λ t lt.
    let ok : IsCore c.args.s.now = subst IsCore c.s.view_is c.s.invariant.1 in
    (unreturned_waits _ (core_frame _ ok) _ ok.lawful t lt, waits_unreturned _ (core_frame _ ok) _ ok.lawful t)

pub returns-clause-claimed : goal.returns-clause-claimed
returns-clause-claimed c = λ k j lk.
    let ok : IsCore c.args.s.now = subst IsCore c.s.view_is c.s.invariant.1 in
    ended_claimed _ (core_frame _ ok) _ ok.lawful k j (workers_are c.args.s.now k lk)
