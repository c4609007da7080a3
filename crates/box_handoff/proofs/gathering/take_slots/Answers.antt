use Rattle.std.proofs.Common.{arith, refl, sym, ap, ◌∙◌, ◌+◌, ℕ, subst}
use Rattle.arrival_core.specs.declared.packets.Side.TheVariants.{Left, Right}
use Rattle.box_handoff.specs.Rule.{bit_on}
use Rattle.box_handoff.specs.Entries.{given_of}
use Rattle.box_handoff.specs.Gathering.{IsTaken}
use Rattle.box_handoff.proofs.NumberLaws.{counted}
use Rattle.box_handoff.proofs.ReadLaws.{taken_is, has_before, told_at, listed_low}
use Rattle.box_handoff.proofs.gathering.take_slots.Goals as goal

pub word-word-requires : goal.word-word-requires
word-word-requires c =
    let p = c.requires.flags.places in
    (omega (arith, p, c.requires.base, c.requires.within), c.requires.flags.full)

pub take-behind-requires : goal.take-behind-requires
take-behind-requires c =
    let t = c.requires.taking.taking in
    (omega (arith, t.places, c.requires.within), t.full (c.args.place + 1) (omega arith) (omega (arith, t.places, c.requires.within)))

pub slot_packet-left-requires-clause-within : goal.slot_packet-left-requires-clause-within
slot_packet-left-requires-clause-within c = listed_low _ c.requires.given c.args.place _ c.requires.within
    c.spot_of-split.ensures

pub slot_packet-left-requires-clause-handed : goal.slot_packet-left-requires-clause-handed
slot_packet-left-requires-clause-handed c = c.is_set.ensures
    ∙ ap (bit_on c.word-word.result) c.bit_of.ensures
    ∙ told_at _ c.requires.given _ _ _ c.args.place _ _ _ Left c.requires.flags c.requires.within
    c.spot_of-split.ensures c.requires.base c.word-word.ensures

pub slot_packet-left-requires-clause-kept : goal.slot_packet-left-requires-clause-kept
slot_packet-left-requires-clause-kept c on =
    let k = counted _ c.requires.given in
    taken_is _ c.requires.given _ c.args.place c.args.place _ Left _ c.requires.taking.taking.kept
    (omega (arith, c.requires.within, k)) (omega arith) c.spot_of-split.ensures c.requires.taking.here_is
    (sym (slot_packet-left-requires-clause-handed c) ∙ on)

pub slot_packet-right-requires-clause-within : goal.slot_packet-right-requires-clause-within
slot_packet-right-requires-clause-within c = listed_low _ c.requires.given c.args.place _ c.requires.within
    c.spot_of-split.ensures

pub slot_packet-right-requires-clause-handed : goal.slot_packet-right-requires-clause-handed
slot_packet-right-requires-clause-handed c = c.is_set-2.ensures
    ∙ ap (bit_on c.word-word.result) c.bit_of-2.ensures
    ∙ told_at _ c.requires.given _ _ _ c.args.place _ _ _ Right c.requires.flags c.requires.within
    c.spot_of-split.ensures c.requires.base c.word-word.ensures

pub slot_packet-right-requires-clause-kept : goal.slot_packet-right-requires-clause-kept
slot_packet-right-requires-clause-kept c on =
    let k = counted _ c.requires.given in
    taken_is _ c.requires.given _ c.args.place (c.args.place + 1) _ Right _ c.requires.taking.taking.kept
    (omega (arith, c.requires.within, k)) refl c.spot_of-split.ensures c.take-behind.ensures.value
    (sym (slot_packet-right-requires-clause-handed c) ∙ on)

pub returns-clause-taking : goal.returns-clause-taking
returns-clause-taking c = has_before _ _ _ _ _ _ _ _ _ c.requires.taking.taking c.take-behind.ensures.others.0
    c.take-behind.ensures.others.1 c.take-behind.ensures.others.2 c.take-behind.ensures.value

pub returns-clause-left : goal.returns-clause-left
returns-clause-left c = subst (λ (n : ℕ). IsTaken (given_of c.args.about.now) n Left c.slot_packet-left.result)
    c.spot_of-split.ensures c.slot_packet-left.ensures

pub returns-clause-right : goal.returns-clause-right
returns-clause-right c = subst (λ (n : ℕ). IsTaken (given_of c.args.about.now) n Right c.slot_packet-right.result)
    c.spot_of-split.ensures c.slot_packet-right.ensures
