use Rattle.std.proofs.Common.{arith, refl}
use Rattle.box_handoff.specs.Entries.{frame, given_of}
use Rattle.box_handoff.proofs.FrameOf.{nodes_is, nodes_low}
use Rattle.box_handoff.proofs.RestLaws.{leaf_told}
use Rattle.box_handoff.proofs.resting.leaf_at.Goals as goal

pub leaf_packet-requires-clause-within : goal.leaf_packet-requires-clause-within
leaf_packet-requires-clause-within c = let n = nodes_is _ c.requires.given in omega (arith, n, c.requires.within)

pub overflow_add-split : goal.overflow_add-split
overflow_add-split c = let n = nodes_low _ c.requires.given in omega (arith, n, c.requires.within)

pub leaf_packet-requires-in-Right-clause-within : goal.leaf_packet-requires-in-Right-clause-within
leaf_packet-requires-in-Right-clause-within c =
    let n = nodes_is _ c.requires.given in omega (arith, n, c.requires.within, c.requires.given.task.two)

pub returns-in-Left : goal.returns-in-Left
returns-in-Left c = leaf_told (frame (given_of c.args.about.now)) c.args.split c.args.side _ _ c.in-Left.is
    c.requires.leaf c.leaf_packet.ensures refl

pub returns-in-Right : goal.returns-in-Right
returns-in-Right c = leaf_told (frame (given_of c.args.about.now)) c.args.split c.args.side _ _ c.in-Right.is
    c.requires.leaf c.leaf_packet-in-Right.ensures (omega arith)
