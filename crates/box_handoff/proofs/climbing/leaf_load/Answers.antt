use Rattle.std.proofs.Common.{arith}
use Rattle.box_handoff.specs.Entries.{frame, given_of}
use Rattle.box_handoff.proofs.FrameOf.{frame_laws_of, leaf_in}
use Rattle.box_handoff.proofs.LeafLaws.{up_is, some_up, load_is, carried_leaf, nodes_are}
use Rattle.box_handoff.proofs.climbing.leaf_load.Goals as goal

pub leaf_packet-packet-requires : goal.leaf_packet-packet-requires
leaf_packet-packet-requires g c = let n = nodes_are (given_of c.args.about.now) in
    record {
      lawful = (frame_laws_of _ c.requires.given).lawful;
      boxes =
          (frame_laws_of _ c.requires.given).boxes;
      within = omega arith;
    }

pub unreachable-requires : goal.unreachable-requires
unreachable-requires g c = some_up _ (frame_laws_of _ c.requires.given) _ _ c.requires.within
    (c.parent.ensures _ c.requires.ways) c.in_default.is

pub returns-clause-value : goal.returns-clause-value
returns-clause-value g c = load_is (frame (given_of c.args.about.now)) c.args.position _ _
    (up_is _ (frame_laws_of _ c.requires.given) c.args.position _ _ c.requires.within
    (c.parent.ensures _ c.requires.ways) c.in-Some.is) c.leaf_packet-packet.ensures

pub returns-clause-load : goal.returns-clause-load
returns-clause-load g c = carried_leaf _ (frame_laws_of _ c.requires.given).frame_laws c.args.position _ _
    c.requires.within c.requires.live (up_is _ (frame_laws_of _ c.requires.given) c.args.position _ _
    c.requires.within (c.parent.ensures _ c.requires.ways) c.in-Some.is) c.leaf_packet-packet.ensures

pub parent-requires : goal.parent-requires
parent-requires g c = (
  (given_of c.args.about.now).keys,
  c.requires.ways,
  leaf_in (given_of c.args.about.now) c.requires.given c.args.position c.requires.within,
)
