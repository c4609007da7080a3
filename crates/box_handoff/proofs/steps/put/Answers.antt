use Rattle.std.proofs.Common.{ap, ◌∙◌, sym, ◌∷◌, List, ℕ}
use Rattle.atomic_table.specs.Table.{rest}
use Rattle.box_handoff.specs.declared.slots.SlotPacket.{SlotPacket}
use Rattle.box_handoff.specs.Slots.{blank}
use Rattle.box_handoff.specs.Rule.{slot}
use Rattle.box_handoff.proofs.Lending.{lent_on}
use Rattle.box_handoff.proofs.steps.put.Goals as goal

pub exchange-requires : goal.exchange-requires
exchange-requires c =
    let out = lent_on c.args.handed (slot c.args.place c.args.load.now.side) blank c.args.seat.now.me.1 c.requires.out
    c.if-not-handed.false in (
      c.requires.table,
      (
        blank,
        out ∙ ap (λ (x : List (ℕ × SlotPacket)). (slot c.args.place c.args.load.now.side, blank) ∷ rest x)
            (sym out) ∙ ap (λ (k : ℕ). (k, blank) ∷ rest c.args.seat.now.me.1) (sym c.slot_of.ensures),
      ),
    )
