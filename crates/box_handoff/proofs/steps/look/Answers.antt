use Rattle.std.proofs.Common.{ap, ◌∙◌, sym, ◌∷◌, List, ℕ}
use Rattle.atomic_table.specs.Table.{rest}
use Rattle.box_handoff.specs.declared.slots.SlotPacket.{SlotPacket}
use Rattle.box_handoff.proofs.steps.look.Goals as goal

pub slot_mut-requires : goal.slot_mut-requires
slot_mut-requires c = (
  c.requires.table,
  (
    c.requires.out.0,
    c.requires.out.1 ∙ ap (λ (x : List (ℕ × SlotPacket)). (c.args.slot, c.requires.out.0) ∷ rest x)
        (sym c.requires.out.1),
  ),
)
