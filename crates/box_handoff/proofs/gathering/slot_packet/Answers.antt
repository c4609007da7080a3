use Rattle.std.proofs.Common.{arith, sym, ◌∙◌}
use Rattle.box_handoff.specs.Entries.{given_of}
use Rattle.box_handoff.proofs.FrameOf.{nodes_low}
use Rattle.box_handoff.proofs.ReadLaws.{unpacked_child}
use Rattle.box_handoff.proofs.gathering.slot_packet.Goals as goal

pub unpack-requires : goal.unpack-requires
unpack-requires c = let n = nodes_low _ c.requires.given in omega (arith, n, c.requires.within)

pub returns-then-not-handed : goal.returns-then-not-handed
returns-then-not-handed c = sym c.requires.handed ∙ c.if-not-handed.true

pub returns : goal.returns
returns c = (
  sym c.requires.handed ∙ c.if-not-handed.false,
  unpacked_child (given_of c.args.about.now) c.requires.given c.args.split c.args.side _ _
      c.requires.within (c.requires.kept c.if-not-handed.false) c.unpack.ensures,
)
