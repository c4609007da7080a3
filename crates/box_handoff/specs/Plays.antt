-- What each step tells its caller.
use Rattle.std.specs.Prelude.{ℕ, ◌≡◌, ◌+◌, ◌<◌, ◌^◌, Bool, true, false, List, [], ◌∷◌}
use Rattle.atomic_table.specs.Table.{Me, Step, rest}
use Rattle.arrival_core.specs.declared.packets.Tally.{Tally}
use Rattle.arrival_core.specs.declared.packets.Phase.{Phase}
use Rattle.arrival_core.specs.declared.packets.Load.{Load}
use Rattle.arrival_core.specs.declared.packets.Phase.TheVariants.{Looking, Carry, Opened, Second, Collecting, Ended}
use Rattle.arrival_core.specs.declared.packets.Side.{Side}
use Rattle.arrival_core.specs.declared.packets.Side.TheVariants.{Left}
use Rattle.radix_tree.specs.Table.{no_box}
use Rattle.arrival_core.specs.Frames.{other, packet_at}
use Rattle.box_handoff.specs.declared.slots.SlotPacket.{SlotPacket}
use Rattle.box_handoff.specs.declared.words.TheConstants.{CLAIMED, ARRIVED, HANDED}
use Rattle.box_handoff.specs.declared.views.Event.{Event}
use Rattle.box_handoff.specs.declared.views.Event.TheVariants.{Take, Open, Arrive, Collect, Leave}
use Rattle.box_handoff.specs.declared.views.Entry.{Entry}
use Rattle.box_handoff.specs.declared.views.View.{View}
use Rattle.box_handoff.specs.LiveNodes.{slotted}
use Rattle.box_handoff.specs.Entries.{frame, numbers, one, grown, unbegun}
use Rattle.box_handoff.specs.Slots.{packed, blank}
use Rattle.box_handoff.specs.Rule.{bit_on, slot, side_no}

abbrev pub Mine : Type 0
Mine = Me SlotPacket View

abbrev pub head_of : List Entry → Entry
head_of [] = unbegun 0
head_of (e ∷ es) = e

-- the entry of a seat that climbs
abbrev pub mine : Mine → Entry
mine me = head_of me.0.entries

-- the view after one event of its one entry
abbrev pub next_view : Mine → Event → View
next_view me ev = one me.0.given (grown (frame me.0.given) (mine me) ev)

unfoldable pub no_load : Load
no_load = record { split = 0; side = Left; packet = record { first = 0; last = 0; split = 0; fit = no_box } }

-- what a worker in a phase carries
abbrev pub load_of : Phase → Load
load_of Looking = no_load
load_of (Carry l) = l
load_of (Opened l) = l
load_of (Second l) = l
load_of (Collecting l found) = l
load_of Ended = no_load

abbrev pub my_load : Mine → Load
my_load me = load_of (mine me).phase

-- a tally far from the largest number
pub record IsSmall (t : Tally) : Type 0 where
  pub fits : t.fits < 2 ^ 32
  pub steps : t.steps < 2 ^ 32

abbrev pub Took : Step SlotPacket → Mine → ℕ → Mine → Type 0
Took st before found after = (after ≡ (next_view before (Take (bit_on found CLAIMED)), before.1))
    × IsSmall (mine after).tally

-- the slots that are out with a seat, and one more, for a child that has one
abbrev pub lent : Bool → ℕ → SlotPacket → List (ℕ × SlotPacket) → List (ℕ × SlotPacket)
lent true k y slots = (k, y) ∷ slots
lent false k y slots = slots

-- and without the one that was taken last
abbrev pub without : Bool → List (ℕ × SlotPacket) → List (ℕ × SlotPacket)
without true slots = rest slots
without false slots = slots

-- the number of the node that a worker is at
abbrev pub my_node : Mine → ℕ
my_node me = (numbers me.0.given).number (my_load me).split

-- whether the child on that side of it has a slot
abbrev pub has_slot : Mine → Side → Bool
has_slot me d = slotted (frame me.0.given) (my_load me).split d

abbrev pub DidOpen : Step SlotPacket → Mine → ℕ → Mine → Type 0
DidOpen st before found after = (after ≡ (
  next_view before Open,
  lent (has_slot before (my_load before).side) (slot (my_node before) (my_load before).side) blank before.1,
))
    × IsSmall (mine after).tally

-- where the other side has arrived, a bit tells whether its child has a slot
abbrev pub Arrived : Step SlotPacket → Mine → ℕ → Mine → Type 0
Arrived st before found after = (after ≡ (
  next_view before
      (Arrive (bit_on found (ARRIVED + side_no (other (my_load before).side)))),
  without (has_slot before (my_load before).side) before.1,
))
    × IsSmall (mine after).tally
    × (bit_on found (ARRIVED + side_no (other (my_load before).side)) ≡ true →
    bit_on found (HANDED + side_no (other (my_load before).side))
    ≡ has_slot before (other (my_load before).side))

abbrev pub Collected : Step SlotPacket → Mine → ℕ → Mine → Type 0
Collected st before found after =
    (after ≡ (
      next_view before Collect,
      lent (has_slot before (other (my_load before).side)) (slot (my_node before) (other (my_load before).side))
          (packed (other (my_load before).side)
          (packet_at (frame before.0.given) (my_load before).split (other (my_load before).side))) before.1,
    ))
    × IsSmall (mine after).tally

abbrev pub DidLeave : Step SlotPacket → Mine → ℕ → Mine → Type 0
DidLeave st before found after =
    (after ≡ (next_view before Leave, without (has_slot before (other (my_load before).side)) before.1))
    × IsSmall (mine after).tally
