use Rattle.std.proofs.Common.{ap, ◌∙◌, sym, subst, [], ◌∷◌, ◌++◌, List}
use Rattle.box_handoff.specs.declared.seats.HandSeat.{HandSeat}
use Rattle.box_handoff.specs.Seats.{AreAll}
use Rattle.box_handoff.proofs.DriveLaws.{popped_two, two_done}
use Rattle.host_threads.proofs.both_climbed.Goals as goal

pub returns : goal.returns
returns g c =
    let h = c.args.handoff.now in
    let both = popped_two h _ _ _ c.in-Some-pop.first c.in-Some.second c.requires.fresh c.requires.two
    c.in-Some.ensures.items c.in-Some-pop.ensures.items in
    let a = c.climb_both.ensures.first in
    let b = c.climb_both.ensures.second in
    subst (λ (l : List HandSeat). AreAll h l)
    (sym (c.in_ok-push-2.ensures.items ∙ ap (λ (l : List HandSeat). l ++ c.climb_both.new.first ∷ [])
    (c.in_ok-push.ensures.items ∙ ap (λ (l : List HandSeat). l ++ c.climb_both.new.second ∷ []) both.0)))
    (two_done h c.in-Some-pop.first c.in-Some.second _ _ c.requires.two both.1
    (record { own = a.0; ended = a.1; number = a.2 }) (record { own = b.0; ended = b.1; number = b.2 }))
