use Rattle.std.proofs.Common.{[], refl, ap, ◌∙◌}
use Rattle.arrival_core.specs.Forks.{fork_at, branch_of, climber_at}
use Rattle.arrival_core.proofs.ClimberLaws.{parts_kept}
use Rattle.arrival_core.proofs.StateLaws.{collect_shown}
use Rattle.arrival_core.specs.declared.packets.Phase.TheVariants.{Collecting}
use Rattle.arrival_core.specs.Events.{held, stepped}
use Rattle.arrival_core.specs.Settings.{frame_over}
use Rattle.arrival_core.proofs.stepping.collect.Goals as goal

pub returns-clause-state : goal.returns-clause-state
returns-clause-state c = λ live claimed.
    let was = c.branch_at-was.ensures
    ∙ ap (branch_of (fork_at c.args.forks.now c.args.l.split)) c.across-side.ensures in
    let packet = c.packet_in.ensures ∙ ap (λ x. held x.place c.args.l.packet) was in
    rw c.put_branch.ensures (rw c.go_on.ensures (rw c.across-side.ensures
    (collect_shown (frame_over [] [] [] 0) live claimed c.args.forks.now c.args.climbers.now c.args.k _
    c.requires.worker c.args.l _
    c.requires.node (ap (λ x. x.opened) was) (ap (λ x. x.arrived) was) refl refl
    (ap (λ p. record (climber_at c.args.climbers.now c.args.k)
    { phase = Collecting c.args.l p; tally = stepped (climber_at c.args.climbers.now c.args.k).tally }) packet))))

pub returns-clause-parts : goal.returns-clause-parts
returns-clause-parts c = λ n j old. rw c.go_on.ensures
    (parts_kept n c.args.climbers.now c.args.k _ c.requires.worker refl refl j old)
