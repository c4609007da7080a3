use Rattle.std.proofs.Common.{◌∙◌, sym, subst, List}
use Rattle.std.proofs.lemmas.List.{take_at}
use Rattle.std.specs.Prelude.{All}
use Rattle.box_handoff.specs.declared.seats.HandSeat.{HandSeat}
use Rattle.box_handoff.specs.Seats.{AreAll, AreFresh}
use Rattle.box_handoff.specs.Driving.{IsReady}
use Rattle.box_handoff.proofs.DriveLaws.{all_ready, all_done}
use Rattle.box_handoff.proofs.driving.climb_all.Goals as goal

pub climb_slice-requires-clause-ready : goal.climb_slice-requires-clause-ready
climb_slice-requires-clause-ready g c = λ κs o. subst (λ (l : List HandSeat). All (IsReady c.args.handoff.now) l)
    (sym c.as_mut_slice.ensures.value)
    (all_ready c.args.handoff.now c.args.seats.now.items c.requires.fresh)

pub returns : goal.returns
returns g c = subst (λ (l : List HandSeat). AreAll c.args.handoff.now l)
    (sym (take_at c.climb_slice.new.seats _ _ (c.climb_slice.auto.seats ∙ c.as_mut_slice.ensures.len)))
    (all_done c.args.handoff.now c.as_mut_slice.result.now c.climb_slice.new.seats
    (subst (λ (l : List HandSeat). AreFresh c.args.handoff.now l) (sym c.as_mut_slice.ensures.value) c.requires.fresh)
    c.climb_slice.ensures c.climb_slice.auto.seats)
