use Rattle.std.proofs.Common.{◌≡◌, ap, sym, subst, arith, length, ◌∙◌}
use Rattle.std.specs.Prelude.{IfSome}
use Rattle.arrival_core.specs.Frames.{packet_at}
use Rattle.arrival_core.specs.States.{resting_packet}
use Rattle.arrival_core.specs.Forks.{fork_at, branch_of}
use Rattle.arrival_core.specs.Cores.{IsCore, frame_of_core, state_of}
use Rattle.arrival_core.proofs.CoreLaws.{nodes_are, resting_right}
use Rattle.arrival_core.proofs.CountLaws.{side_of}
use Rattle.arrival_core.proofs.cores.resting.Goals as goal

pub branch_at-requires : goal.branch_at-requires
branch_at-requires c =
    let long = ap length (c.as_slice.ensures.value ∙ ap (λ v. v.forks) c.s.view_is) in
    omega (arith, c.requires, nodes_are c.args.s.now (subst IsCore c.s.view_is c.s.invariant.1), long)

pub returns-clause-value : goal.returns-clause-value
returns-clause-value c =
    let p = ap (λ x. x.place) (c.branch_at.ensures ∙ ap (λ fs. branch_of (fork_at fs c.args.split) c.args.side)
    (c.as_slice.ensures.value ∙ ap (λ v. v.forks) c.s.view_is)) in
    c.resting_in.ensures ∙ ap resting_packet p

pub returns-clause-packet : goal.returns-clause-packet
returns-clause-packet c =
    let ok : IsCore c.args.s.now = subst IsCore c.s.view_is c.s.invariant.1 in
    let place = (side_of (frame_of_core c.args.s.now) (state_of c.args.s.now) ok.lawful c.args.split c.args.side
    c.requires).place in
    subst (λ r. IfSome r (λ p. p ≡ packet_at (frame_of_core c.args.s.now) c.args.split c.args.side))
    (sym (returns-clause-value c)) (resting_right _ _ place.packet)
