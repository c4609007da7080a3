use Rattle.std.proofs.Common.{◌≡◌, ◌<◌, ap, sym, ◌∙◌, refl, subst, false}
use Rattle.radix_tree.proofs.DescentLaws.{child_from_range}
use Rattle.arrival_core.specs.Frames.{Frame, packet_at}
use Rattle.box_handoff.specs.declared.laying.Moves.{Moves}
use Rattle.box_handoff.specs.LiveNodes.{slotted}
use Rattle.box_handoff.proofs.RestLaws.{rest_is, are_moves, frame_same, nodes_same, last_low}
use Rattle.box_handoff.proofs.resting.rest_packet.Goals as goal

pub child_at-requires-clause-table : goal.child_at-requires-clause-table
child_at-requires-clause-table c =
    let m : Moves = record {
      tree = c.args.tree;
      boxes = c.args.about.now.boxes;
      live = c.as_slice.result;
      seats = c.args.about.now.seats;
    } in
    (are_moves _ c.requires.given m c.requires.tree refl c.as_slice.ensures.value refl).table

pub child_at-requires-clause-within : goal.child_at-requires-clause-within
child_at-requires-clause-within c = nodes_same _ c.requires.given c.args.tree.now c.requires.tree c.args.split
    c.requires.within

pub packet_of-requires-clause-moves : goal.packet_of-requires-clause-moves
packet_of-requires-clause-moves c =
    let m : Moves = record {
      tree = c.args.tree;
      boxes = c.args.about.now.boxes;
      live = c.as_slice.result;
      seats = c.args.about.now.seats;
    } in
    are_moves _ c.requires.given m c.requires.tree refl c.as_slice.ensures.value refl

pub packet_of-requires-clause-child : goal.packet_of-requires-clause-child
packet_of-requires-clause-child c =
    let m : Moves = record {
      tree = c.args.tree;
      boxes = c.args.about.now.boxes;
      live = c.as_slice.result;
      seats = c.args.about.now.seats;
    } in
    child_from_range c.args.tree.now
    (are_moves _ c.requires.given m c.requires.tree refl c.as_slice.ensures.value refl).table c.child_at.result _ _
    (last_low _ c.requires.given c.args.tree.now c.requires.tree c.args.split c.args.side c.requires.within)
    c.child_at.ensures

pub returns : goal.returns
returns c =
    let m : Moves = record {
      tree = c.args.tree;
      boxes = c.args.about.now.boxes;
      live = c.as_slice.result;
      seats = c.args.about.now.seats;
    } in
    let same = frame_same _ c.requires.given m c.requires.tree refl c.as_slice.ensures.value refl in
    c.packet_of.ensures
    ∙ rest_is m (are_moves _ c.requires.given m c.requires.tree refl c.as_slice.ensures.value refl) c.child_at.result
    c.args.split c.args.side (subst (λ (f : Frame). c.args.split < f.nodes) (sym same) c.requires.within)
    (subst (λ (f : Frame). slotted f c.args.split c.args.side ≡ false) (sym same) c.requires.told) c.child_at.ensures
    ∙ ap (λ (f : Frame). packet_at f c.args.split c.args.side) same
