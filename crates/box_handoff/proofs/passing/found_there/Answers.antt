use Rattle.std.proofs.Common.{◌≡◌, arith, [], ◌<◌, false, sym, subst, ap, ◌∙◌, refl}
use Rattle.arrival_core.specs.Frames.{other, packet_at}
use Rattle.box_handoff.specs.declared.views.About.{About}
use Rattle.box_handoff.specs.LiveNodes.{slotted}
use Rattle.box_handoff.specs.Entries.{IsGiven, frame, given_of}
use Rattle.box_handoff.proofs.Lending.{lent_on}
use Rattle.box_handoff.specs.Rule.{slot}
use Rattle.box_handoff.proofs.FrameOf.{nodes_low}
use Rattle.box_handoff.proofs.PassLaws.{out_alone, unpacked_is}
use Rattle.box_handoff.proofs.passing.found_there.Goals as goal

pub told-requires-clause-given : goal.told-requires-clause-given
told-requires-clause-given c = subst (λ (a : About). IsGiven (given_of a)) c.requires.key c.requires.given

pub told-requires-clause-within : goal.told-requires-clause-within
told-requires-clause-within c = subst (λ (a : About). c.args.load.now.split < (frame (given_of a)).nodes)
    c.requires.key c.requires.load.node

pub told-requires-clause-told : goal.told-requires-clause-told
told-requires-clause-told c = ap (slotted (frame (given_of c.args.about.now)) c.args.load.now.split)
    c.across-theirs.ensures
    ∙ subst (λ (a : About). slotted (frame (given_of a)) c.args.load.now.split (other c.args.load.now.side) ≡ false)
    c.requires.key (sym c.requires.handed ∙ c.if-not-handed.true)

pub returns-then-not-handed-clause-found : goal.returns-then-not-handed-clause-found
returns-then-not-handed-clause-found c = c.told.ensures
    ∙ ap (packet_at (frame (given_of c.args.about.now)) c.args.load.now.split) c.across-theirs.ensures
    ∙ ap (λ (a : About). packet_at (frame (given_of a)) c.args.load.now.split (other c.args.load.now.side))
    (sym c.requires.key)

pub look-kept-requires-clause-out : goal.look-kept-requires-clause-out
look-kept-requires-clause-out c = (
  _,
  out_alone _ [] _ _ _ (lent_on _ _ _ _ c.requires.out c.if-not-handed.false) refl
      (c.slot_of.ensures ∙ ap (slot c.args.place) c.across-theirs.ensures),
)

pub unpack-requires : goal.unpack-requires
unpack-requires c = let n = nodes_low _ c.requires.given in omega (arith, n, c.requires.load.node)

pub returns-clause-found : goal.returns-clause-found
returns-clause-found c = unpacked_is _ c.requires.given c.args.load.now c.requires.load _ _ _ _ _ _ _
    c.look-kept.ensures.found (lent_on _ _ _ _ c.requires.out c.if-not-handed.false) c.across-theirs.ensures c.unpack.ensures
