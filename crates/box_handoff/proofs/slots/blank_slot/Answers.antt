use Rattle.std.proofs.Common.{ap}
use Rattle.fixed_box.specs.declared.shapes.Box3.{Box3}
use Rattle.box_handoff.specs.declared.slots.SlotPacket.{SlotPacket}
use Rattle.box_handoff.specs.Slots.{blank}
use Rattle.box_handoff.proofs.slots.blank_slot.Goals as goal

pub returns : goal.returns
unfolding blank
returns c = ap (λ (x : Box3). let k : SlotPacket = record { far = 0; split = 0; fit = x } in
    k) c.of_corners.ensures.value
