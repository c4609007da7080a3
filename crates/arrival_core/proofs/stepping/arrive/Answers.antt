use Rattle.std.proofs.Common.{refl, ap, ◌∙◌, length}
use Rattle.arrival_core.specs.Forks.{fork_at, branch_of}
use Rattle.arrival_core.proofs.ClimberLaws.{parts_set}
use Rattle.arrival_core.proofs.StateLaws.{arrive_shown}
use Rattle.arrival_core.specs.Terrains.{frame_at}
use Rattle.arrival_core.proofs.stepping.arrive.Goals as goal

pub returns-clause-state : goal.returns-clause-state
returns-clause-state c = λ workers claimed.
    let e = c.climber_of-climber.ensures in
    let second = ap (λ x. x.arrived) (c.branch_at-second.ensures
    ∙ ap (branch_of (fork_at c.args.forks.now c.args.l.split)) c.across.ensures) in
    rw c.put_branch.ensures
    (arrive_shown (frame_at c.args.g.now workers) c.args.g.now.live.now claimed c.args.forks.now c.args.climbers.now
    c.args.k c.after_arrival.result c.requires.worker c.args.l _ c.requires.node
    (ap (λ x. x.opened) c.branch_at-was.ensures)
    refl (ap (λ x. x.collected) c.branch_at-was.ensures) refl
    (rw (← second) (rw (← e) (c.after_arrival.ensures.value workers))))

pub returns-clause-parts : goal.returns-clause-parts
returns-clause-parts c = λ j old. parts_set (length c.args.g.now.live.now) c.args.climbers.now c.args.k
    c.after_arrival.result c.requires.worker
    (record { order = c.after_arrival.ensures.part; within = c.after_arrival.ensures.within }) j old
