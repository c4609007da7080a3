use Rattle.std.proofs.Common.{ap, sym, subst, ◌∙◌}
use Rattle.arrival_core.specs.Lawful.{Carries}
use Rattle.arrival_core.specs.Forks.{climber_at}
use Rattle.arrival_core.specs.Cores.{IsCore, frame_of_core, state_of}
use Rattle.arrival_core.proofs.CoreLaws.{workers_are}
use Rattle.arrival_core.proofs.cores.phase_of.Goals as goal

pub returns-clause-carries : goal.returns-clause-carries
returns-clause-carries c =
    let ok : IsCore c.args.s.now = subst IsCore c.s.view_is c.s.invariant.1 in
    subst (Carries (frame_of_core c.args.s.now) (state_of c.args.s.now)) (sym (ap (λ x. x.phase) c.climber_of.ensures
    ∙ ap (λ cs. (climber_at cs c.args.worker).phase) (c.as_slice.ensures.value ∙ ap (λ v. v.climbers) c.s.view_is)))
    (ok.lawful.workers c.args.worker (workers_are c.args.s.now c.args.worker c.requires)).carries
