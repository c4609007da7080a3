use Rattle.std.proofs.Common.{refl, ap, ◌∙◌, ◌<◌, arith, length, set}
use Rattle.arrival_core.specs.Forks.{fork_at, branch_of, with_branch}
use Rattle.arrival_core.proofs.ClimberLaws.{parts_set}
use Rattle.arrival_core.proofs.StateLaws.{leave_shown}
use Rattle.arrival_core.specs.Terrains.{frame_at}
use Rattle.arrival_core.specs.Settings.{frame_of}
use Rattle.arrival_core.specs.declared.forks.Branch.{Branch}
use Rattle.arrival_core.specs.declared.packets.Place.TheVariants.{Holds}
use Rattle.arrival_core.proofs.stepping.leave.Goals as goal

pub returns-clause-state : goal.returns-clause-state
unfolding frame_of
returns-clause-state c = λ workers claimed.
    let e = c.climber_of-climber.ensures in
    let was = c.branch_at-was.ensures
    ∙ ap (branch_of (fork_at c.args.forks.now c.args.l.split)) c.across-side.ensures in
    let x : Branch = record {
      opened = c.branch_at-was.result.opened;
      arrived = c.branch_at-was.result.arrived;
      collected = c.branch_at-was.result.collected;
      place = Holds c.args.found;
    } in
    let long : c.args.l.split < length c.put_branch.new.forks =
    omega (arith, c.put_branch.auto.forks, c.requires.node) in
    rw c.put_returned.ensures
    (leave_shown (frame_at c.args.g.now workers) c.args.g.now.live.now claimed c.args.forks.now c.args.climbers.now
    c.args.k c.after_leaving.result c.requires.worker c.args.l c.args.found x c.put_branch.new.forks c.requires.node
    (c.put_branch.ensures
    ∙ ap (λ d. set c.args.forks.now c.args.l.split (with_branch (fork_at c.args.forks.now c.args.l.split) d x))
    c.across-side.ensures)
    long (ap (λ x. x.opened) was) (ap (λ x. x.arrived) was) (ap (λ x. x.collected) was) refl
    (rw (← e) (c.after_leaving.ensures.value workers)))

pub returns-clause-parts : goal.returns-clause-parts
returns-clause-parts c = λ j old. parts_set (length c.args.g.now.live.now) c.args.climbers.now c.args.k
    c.after_leaving.result c.requires.worker
    (record { order = c.after_leaving.ensures.part; within = c.after_leaving.ensures.within }) j old
