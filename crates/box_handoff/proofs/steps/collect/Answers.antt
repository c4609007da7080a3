use Rattle.std.proofs.Common.{sym, ℕ, Bool, rules, arith, ap, ◌∙◌, ◌^◌, ◌+◌}
use Rattle.arrival_core.specs.declared.packets.Side.{Side}
use Rattle.arrival_core.specs.declared.packets.Load.{Load}
use Rattle.arrival_core.specs.Frames.{other, packet_at}
use Rattle.box_handoff.specs.Slots.{packed}
use Rattle.box_handoff.specs.Rule.{side_no, slot}
use Rattle.box_handoff.specs.Plays.{load_of, lent}
use Rattle.box_handoff.specs.LiveNodes.{slotted}
use Rattle.box_handoff.specs.declared.slots.SlotPacket.{SlotPacket}
use Rattle.box_handoff.specs.Entries.{frame, numbers, given_of}
use Rattle.box_handoff.specs.Plays.{Mine}
use Rattle.box_handoff.specs.declared.views.Given.{Given}
use Rattle.box_handoff.specs.declared.views.View.{View}
use Rattle.box_handoff.proofs.Dids.{did, moved_so}
use Rattle.box_handoff.proofs.steps.collect.Goals as goal
use Rattle.box_handoff.proofs.CollectLaws.{collecting}

pub fetch_or-requires : goal.fetch_or-requires
fetch_or-requires c = (
  search rules,
  omega arith,
  collecting _ _ _ c.requires.one _ _ c.requires.place.seen
      c.requires.phase _ _ (let p = c.requires.place.number in let b = c.requires.words.0 in
      omega arith) (c.mask.ensures ∙ ap (λ (n : ℕ). 2 ^ n) (c.bit_of-bit.ensures
      ∙ ap (λ (d : Side). 4 + side_no d) c.across.ensures)),
)

pub returns-clause-did : goal.returns-clause-did
returns-clause-did c = did _ _ _ _ _ _ c.requires.one c.fetch_or.ensures.2.0 c.fetch_or.ensures.2.1 c.requires.phase tt

-- what the other child's slot keeps
abbrev theirs : goal.After-fetch_or → SlotPacket
theirs c = packed (other c.args.load.now.side) (packet_at (frame (given_of c.args.table.now.key.value))
    c.args.load.now.split (other c.args.load.now.side))

pub returns-clause-out : goal.returns-clause-out
returns-clause-out c = ap (λ (x : Mine). x.1) c.fetch_or.ensures.2.0
    ∙ ap (λ (x : Load). lent (slotted (frame c.args.seat.now.me.0.given) x.split (other x.side))
    (slot ((numbers c.args.seat.now.me.0.given).number x.split) (other x.side))
    (packed (other x.side) (packet_at (frame c.args.seat.now.me.0.given) x.split (other x.side)))
    c.args.seat.now.me.1) (ap load_of c.requires.phase)
    ∙ ap (λ (x : Given). lent (slotted (frame x) c.args.load.now.split (other c.args.load.now.side))
    (slot ((numbers x).number c.args.load.now.split) (other c.args.load.now.side))
    (packed (other c.args.load.now.side) (packet_at (frame x) c.args.load.now.split (other c.args.load.now.side)))
    c.args.seat.now.me.1) (ap (λ (v : View). v.given) c.requires.one)
    ∙ ap (λ (b : Bool). lent b (slot ((numbers (given_of c.args.table.now.key.value)).number c.args.load.now.split)
    (other c.args.load.now.side)) (theirs c) c.args.seat.now.me.1) (sym c.requires.handed)
    ∙ ap (λ (k : ℕ). lent c.args.handed (slot k (other c.args.load.now.side)) (theirs c) c.args.seat.now.me.1)
    (sym c.requires.place.number)

pub returns-clause-worker : goal.returns-clause-worker
returns-clause-worker c = moved_so _ _ _ _ _ (returns-clause-did c) c.requires.phase
