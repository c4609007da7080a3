-- What a slot keeps of a child's packet: all but the end of its range that the slot's place tells.
use Rattle.std.specs.Prelude.{ℕ, suc, pos}
use Rattle.fixed_box.specs.declared.shapes.Point.{Point}
use Rattle.fixed_box.specs.Extent.{corner_box}
use Rattle.arrival_core.specs.declared.packets.Packet.{Packet}
use Rattle.arrival_core.specs.declared.packets.Side.{Side}
use Rattle.arrival_core.specs.declared.packets.Side.TheVariants.{Left, Right}
use Rattle.box_handoff.specs.declared.slots.SlotPacket.{SlotPacket}

-- of a left child the first position, of a right one the last
abbrev pub packed : Side → Packet → SlotPacket
packed Left p = record { far = p.first; split = p.split; fit = p.fit }
packed Right p = record { far = p.last; split = p.split; fit = p.fit }

-- the packet on a side of a node with that split: a left child ends at the split, a right one begins behind it
abbrev pub unpacked : ℕ → Side → SlotPacket → Packet
unpacked s Left k = record { first = k.far; last = s; split = k.split; fit = k.fit }
unpacked s Right k = record { first = suc s; last = k.far; split = k.split; fit = k.fit }

abbrev pub origin : Point
origin = record { x = pos 0; y = pos 0; z = pos 0 }

-- what stands in a slot before a packet does
unfoldable pub blank : SlotPacket
blank = record { far = 0; split = 0; fit = corner_box origin origin }
