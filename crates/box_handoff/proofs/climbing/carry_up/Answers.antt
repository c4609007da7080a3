use Rattle.std.proofs.Common.{refl, ap, ◌∙◌, sym, Some, None}
use Rattle.arrival_core.specs.States.{Worker}
use Rattle.box_handoff.specs.Made.{frame_in}
use Rattle.box_handoff.specs.Plays.{mine}
use Rattle.box_handoff.proofs.FrameOf.{frame_laws_of, joined_in}
use Rattle.box_handoff.proofs.GrowLaws.{grew_none}
use Rattle.box_handoff.proofs.ClimbLaws.{above_packet, carried_up, first_goes_on, second_goes_on, wider}
use Rattle.box_handoff.proofs.BatchLaws.{climbed_all}
use Rattle.box_handoff.proofs.climbing.carry_up.Goals as goal

pub loop-packet-init : goal.loop-packet-init
loop-packet-init g c = record {
  climbed = record {
    table = refl;
    id = refl;
    view = c.requires.one;
    home = c.requires.home;
    grew = grew_none _ _;
    small = λ h. h;
  };
  phase = c.requires.phase;
  load_is = c.requires.load;
  tally_is = c.requires.tally;
  next = refl;
  pending = refl;
}

pub returns-in_default-clause-climbed : goal.returns-in_default-clause-climbed
returns-in_default-clause-climbed g c = climbed_all _ _ _ _ c.loop-packet.invariant.climbed c.pass_node.ensures.climbed

pub returns-in_default-clause-worker : goal.returns-in_default-clause-worker
returns-in_default-clause-worker g c = let i = c.loop-packet.invariant in c.in_default.ensures.first
    ∙ first_goes_on (frame_in c.args.table.now.key) (mine c.loop-packet.seat.me) c.loop-packet.tally _ _
    i.tally_is i.next i.pending

pub parent-requires : goal.parent-requires
parent-requires g c = (
  _,
  c.requires.ways,
  joined_in _ c.requires.over.given c.loop-packet.load _
      c.loop-packet.invariant.load_is.node c.in-Some.ensures.packet,
)

pub returns-in-None-clause-climbed : goal.returns-in-None-clause-climbed
returns-in-None-clause-climbed g c = climbed_all _ _ _ _ c.loop-packet.invariant.climbed c.pass_node.ensures.climbed

pub returns-in-None-clause-worker : goal.returns-in-None-clause-worker
returns-in-None-clause-worker g c = let i = c.loop-packet.invariant in c.in-Some.ensures.second
    ∙ second_goes_on (frame_in c.args.table.now.key) c.loop-packet.load.split c.in-Some.packet
    (mine c.loop-packet.seat.me) None c.loop-packet.tally _ _
    (above_packet _ _ _ c.in-Some.ensures.packet ∙ sym (sym c.in-None.is ∙ c.parent.ensures _ c.requires.ways))
    i.tally_is i.next i.pending

pub loop-packet-preserved : goal.loop-packet-preserved
loop-packet-preserved g c = let i = c.loop-packet.invariant in
    let up = above_packet _ _ _ c.in-Some.ensures.packet
    ∙ sym (sym c.in-Some-parent.is ∙ c.parent.ensures _ c.requires.ways) in
    let worker = c.in-Some.ensures.second ∙ second_goes_on (frame_in c.args.table.now.key) c.loop-packet.load.split
    c.in-Some.packet (mine c.loop-packet.seat.me) (Some c.in-Some-parent.field-0) c.loop-packet.tally _ _
    up i.tally_is i.next i.pending in
    record {
      climbed = climbed_all _ _ _ _ i.climbed c.in-Some.ensures.climbed;
      phase = ap (λ (w : Worker). w.phase) worker;
      load_is = carried_up _ (frame_laws_of _ c.requires.over.given) _ _ _ i.load_is c.in-Some.ensures.packet up;
      tally_is = sym (ap (λ (w : Worker). w.tally) worker);
      next = ap (λ (w : Worker). w.next) worker;
      pending = ap (λ (w : Worker). w.pending) worker;
    }

pub loop-packet-smaller : goal.loop-packet-smaller
loop-packet-smaller g c = wider _ (frame_laws_of _ c.requires.over.given) c.loop-packet.load _
    c.loop-packet.invariant.load_is
    c.in-Some.ensures.packet
