use Rattle.box_handoff.specs.LiveNodes.{slotted}
use Rattle.box_handoff.specs.Entries.{numbers, frame, given_of}
use Rattle.box_handoff.specs.declared.views.Given.{Given}
use Rattle.box_handoff.specs.declared.views.View.{View}
use Rattle.std.proofs.Common.{sym, ℕ, Bool, rules, arith, ap, ◌∙◌, ◌^◌, ◌+◌}
use Rattle.arrival_core.specs.declared.packets.Load.{Load}
use Rattle.box_handoff.specs.Slots.{blank}
use Rattle.box_handoff.specs.Rule.{slot, side_no, opened_bit}
use Rattle.box_handoff.specs.Plays.{load_of, lent}
use Rattle.box_handoff.specs.Plays.{Mine}
use Rattle.box_handoff.proofs.Dids.{did, moved_so}
use Rattle.box_handoff.proofs.steps.open.Goals as goal
use Rattle.box_handoff.proofs.OpenLaws.{opening}

pub fetch_or-requires : goal.fetch_or-requires
fetch_or-requires c = (
  search rules,
  omega arith,
  opening _ _ _ c.requires.one _ _ c.requires.place.seen
      c.requires.phase _ _ (let p = c.requires.place.number in let b = c.requires.words.0 in
      omega arith) (c.mask.ensures ∙ ap (λ (n : ℕ). 2 ^ n) (c.opening_bit-bit.ensures
      ∙ ap (λ (b : Bool). opened_bit b + side_no c.args.load.now.side) c.requires.handed)),
)

pub returns-clause-did : goal.returns-clause-did
returns-clause-did c = did _ _ _ _ _ _ c.requires.one c.fetch_or.ensures.2.0 c.fetch_or.ensures.2.1 c.requires.phase tt

pub returns-clause-out : goal.returns-clause-out
returns-clause-out c = ap (λ (x : Mine). x.1) c.fetch_or.ensures.2.0
    ∙ ap (λ (x : Load). lent (slotted (frame c.args.seat.now.me.0.given) x.split x.side)
    (slot ((numbers c.args.seat.now.me.0.given).number x.split) x.side) blank
    c.args.seat.now.me.1) (ap load_of c.requires.phase)
    ∙ ap (λ (x : Given). lent (slotted (frame x) c.args.load.now.split c.args.load.now.side)
    (slot ((numbers x).number c.args.load.now.split) c.args.load.now.side) blank
    c.args.seat.now.me.1) (ap (λ (v : View). v.given) c.requires.one)
    ∙ ap (λ (b : Bool). lent b (slot ((numbers (given_of c.args.table.now.key.value)).number c.args.load.now.split)
    c.args.load.now.side) blank c.args.seat.now.me.1) (sym c.requires.handed)
    ∙ ap (λ (k : ℕ). lent c.args.handed (slot k c.args.load.now.side) blank c.args.seat.now.me.1)
    (sym c.requires.place.number)

pub returns-clause-worker : goal.returns-clause-worker
returns-clause-worker c = moved_so _ _ _ _ _ (returns-clause-did c) c.requires.phase
