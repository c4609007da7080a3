use Rattle.std.proofs.Common.{subst, ap, ◌∙◌, refl}
use Rattle.box_handoff.specs.declared.views.About.{About}
use Rattle.box_handoff.specs.LiveNodes.{Shown}
use Rattle.box_handoff.specs.Entries.{IsGiven, frame, given_of}
use Rattle.box_handoff.proofs.NumberLaws.{place_there}
use Rattle.arrival_core.specs.States.{Worker}
use Rattle.box_handoff.specs.Made.{frame_in}
use Rattle.box_handoff.proofs.FrameOf.{frame_laws_of}
use Rattle.box_handoff.proofs.ClimbLaws.{joined_is}
use Rattle.box_handoff.proofs.PassLaws.{passed, arrived_so}
use Rattle.box_handoff.proofs.BatchLaws.{climbed_all}
use Rattle.box_handoff.proofs.passing.pass_node.Goals as goal

pub place_of-place-requires-clause-given : goal.place_of-place-requires-clause-given
place_of-place-requires-clause-given c = subst (λ (a : About). IsGiven (given_of a)) c.requires.over.key_is
    c.requires.over.given

pub place_of-place-requires-clause-seen : goal.place_of-place-requires-clause-seen
place_of-place-requires-clause-seen c = subst (λ (a : About). Shown (frame (given_of a)) c.args.load.now.split)
    c.requires.over.key_is (c.requires.load.node, c.requires.load.live)

pub come-across-requires-clause-over : goal.come-across-requires-clause-over
come-across-requires-clause-over c = record {
  key_is = refl;
  batches = c.requires.over.batches;
  words = c.requires.over.words;
  room = c.requires.over.room;
  given = c.requires.over.given;
}

pub come-across-requires-clause-place : goal.come-across-requires-clause-place
come-across-requires-clause-place c = place_there _ _ _ _ c.requires.over.key_is c.place_of-place.ensures.place

pub take_other-found-requires-clause-place : goal.take_other-found-requires-clause-place
take_other-found-requires-clause-place c = place_there _ _ _ _ c.requires.over.key_is c.place_of-place.ensures.place

pub take_other-found-requires-clause-phase : goal.take_other-found-requires-clause-phase
take_other-found-requires-clause-phase c = ap (λ (w : Worker). w.phase) (c.come-across.ensures.second (arrived_so _ c.if-not-across.false))

pub take_other-found-requires-clause-handed : goal.take_other-found-requires-clause-handed
take_other-found-requires-clause-handed c = c.come-across.ensures.other (arrived_so _ c.if-not-across.false)

pub returns-clause-climbed : goal.returns-clause-climbed
returns-clause-climbed c = climbed_all _ _ _ _ c.come-across.ensures.climbed c.take_other-found.ensures.climbed

pub returns-clause-packet : goal.returns-clause-packet
returns-clause-packet c = c.joined.ensures ∙ joined_is _ (frame_laws_of _ c.requires.over.given) c.args.load.now _
    c.requires.load c.take_other-found.ensures.found

pub returns-clause-second : goal.returns-clause-second
returns-clause-second c = passed (frame_in c.args.table.now.key) c.args.load.now _ _ c.args.seat.now.me
    c.come-across.new.seat.me c.take_other-found.new.seat.me (c.come-across.ensures.second (arrived_so _ c.if-not-across.false))
    c.take_other-found.ensures.worker c.joined.ensures
