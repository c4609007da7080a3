-- Seats while they are split off and gathered, and packets while they are read out.
-- No public clause cites this module.
use Rattle.std.specs.Prelude.{ℕ, ◌≡◌, ◌+◌, ◌<◌, ◌≤◌, ◌*◌, ◌^◌, [], ◌∷◌, List, length, Bool, true, false, slice_index_or, All, Option, Some, None}
use mathlib.Core.Option.{some}
use lib.ListN.{get_elem?}
use Rattle.atomic_table.specs.Seated.{TableId}
use Rattle.atomic_table.specs.declared.shared.Seat.{Seat}
use Rattle.arrival_core.specs.declared.packets.Packet.{Packet}
use Rattle.arrival_core.specs.declared.packets.Phase.TheVariants.{Ended}
use Rattle.arrival_core.specs.declared.packets.Side.{Side}
use Rattle.arrival_core.specs.declared.packets.Side.TheVariants.{Left, Right}
use Rattle.arrival_core.specs.declared.packets.Tally.{Tally}
use Rattle.arrival_core.specs.Frames.{packet_at}
use Rattle.box_handoff.specs.declared.slots.SlotPacket.{SlotPacket}
use Rattle.box_handoff.specs.declared.words.TheConstants.{HANDED}
use Rattle.box_handoff.specs.declared.views.Given.{Given}
use Rattle.box_handoff.specs.declared.views.Entry.{Entry}
use Rattle.box_handoff.specs.declared.views.View.{View}
use Rattle.box_handoff.specs.declared.seats.HandSeat.{HandSeat}
use Rattle.box_handoff.specs.Slots.{packed}
use Rattle.box_handoff.specs.LiveNodes.{Shown, slotted, splits_of}
use Rattle.box_handoff.specs.Entries.{frame, numbers, unbegun_below, total, In}
use Rattle.box_handoff.specs.Packets.{ArePacketsOf, child_packet}
use Rattle.box_handoff.specs.Rule.{slot, bit_on, side_no, node_word}
use Rattle.box_handoff.specs.Seats.{IsSeat, seat_fits, seat_steps}

-- a seat of that number that has not begun
pub record IsUnbegun (g : Given) (z : TableId) (k : ℕ) (s : HandSeat) : Type 0 where
  pub own : IsSeat g z s
  pub number : s.number ≡ k
  pub unbegun : s.ended ≡ false

-- seats of the numbers from k on, in order, none begun
abbrev pub AreUnbegun : Given → TableId → ℕ → List HandSeat → Type 0
AreUnbegun g z k [] = Unit {0}
AreUnbegun g z k (s ∷ ss) = IsUnbegun g z k s × AreUnbegun g z (k + 1) ss

-- a seat that has ended
pub record HasEnded (g : Given) (z : TableId) (s : HandSeat) : Type 0 where
  pub own : IsSeat g z s
  pub ended : s.ended ≡ true

-- while seats are split off
pub record IsParting (g : Given) (z : TableId) (all number : ℕ) (rest : Seat SlotPacket View)
    (seats : List HandSeat) : Type 0 where
  pub some : 0 < number
  pub table : rest.table_id ≡ z
  pub view : rest.me ≡ (record { given = g; entries = unbegun_below number }, [])
  pub fresh : AreUnbegun g z number seats
  pub count : length seats + number ≡ all

-- a view has the entry of that number, which has ended
abbrev pub Covers : ℕ → View → Type 0
Covers k v = (e : Entry) × In e v.entries × (e.number ≡ k) × (e.phase ≡ Ended)

-- each entry of the view has ended
abbrev pub AllEnded : View → Type 0
AllEnded v = (e : Entry) → In e v.entries → e.phase ≡ Ended

-- the tallies of a view's entries, added up
abbrev pub fits_of : View → ℕ
fits_of v = total (λ (e : Entry). e.tally.fits) v.entries

abbrev pub steps_of : View → ℕ
steps_of v = total (λ (e : Entry). e.tally.steps) v.entries

-- while seats are gathered
pub record IsGathering (g : Given) (z : TableId) (all left : List HandSeat) (before now : Seat SlotPacket View)
    (start sum : Tally) : Type 0 where
  pub table : now.table_id ≡ z
  pub home : now.me.1 ≡ []
  pub given : now.me.0.given ≡ g
  pub over : AllEnded now.me.0
  pub ended : All (HasEnded g z) left
  -- those that are left stand first among all
  pub front : (k : ℕ) (s : HandSeat) → k < length left → slice_index_or left k s ≡ slice_index_or all k s
  pub within : length left ≤ length all
  pub covers : (k : ℕ) (s : HandSeat) → length left ≤ k → k < length all →
      Covers (slice_index_or all k s).number now.me.0
  pub kept : (k : ℕ) → Covers k before.me.0 → Covers k now.me.0
  pub fits : sum.fits ≡ fits_of now.me.0
  pub steps : sum.steps ≡ steps_of now.me.0
  pub fits_added : sum.fits + seat_fits left ≡ start.fits + seat_fits all
  pub steps_added : sum.steps + seat_steps left ≡ start.steps + seat_steps all
  pub fits_low : sum.fits + 2 ^ 32 * length left ≤ 2 ^ 38
  pub steps_low : sum.steps + 2 ^ 32 * length left ≤ 2 ^ 38

-- each slot of a closed table that is a child's keeps its packet
abbrev pub AreKept : Given → List SlotPacket → Type 0
AreKept g slots = (t : ℕ) (d : Side) → Shown (frame g) t → slotted (frame g) t d ≡ true →
    get_elem? slots (slot ((numbers g).number t) d) ≡ some (packed d (packet_at (frame g) t d))

-- its words tell which children have a slot
pub record AreFlags (g : Given) (words : List ℕ) (filled : List Bool) (count : ℕ) : Type 0 where
  pub places : count ≡ (frame g).batches + (numbers g).count
  pub full : (k : ℕ) → 0 ≤ k → k < count → slice_index_or filled k false ≡ true
  pub tells : (t : ℕ) (d : Side) → Shown (frame g) t →
      bit_on (node_word (frame g) (numbers g) words t) (HANDED + side_no d) ≡ slotted (frame g) t d

-- what is taken of a child: its packet, if it has a slot
abbrev pub IsTaken : Given → ℕ → Side → Option Packet → Type 0
IsTaken g t d (Some p) = (slotted (frame g) t d ≡ true) × (p ≡ child_packet g.keys g.boxes t d)
IsTaken g t d None = slotted (frame g) t d ≡ false

-- while packets are taken out of a closed table: the first so many slots are out
pub record IsTaking (g : Given) (slots : List SlotPacket) (filled : List Bool) (count t : ℕ) : Type 0 where
  pub kept : AreKept g slots
  pub places : count ≡ (numbers g).count + 1
  pub full : (k : ℕ) → t ≤ k → k < count → slice_index_or filled k false ≡ true
  pub empty : (k : ℕ) → k < t → slice_index_or filled k false ≡ false

-- the slot before the node of a number is out
pub record HasBefore (g : Given) (slots : List SlotPacket) (filled : List Bool) (count t : ℕ)
    (here : SlotPacket) : Type 0 where
  pub taking : IsTaking g slots filled count (t + 1)
  pub here_is : get_elem? slots t ≡ some here

-- and the packets are listed
pub record IsReading (g : Given) (slots : List SlotPacket) (filled : List Bool) (count : ℕ)
    (here : SlotPacket) (left right : List Packet) (t : ℕ) : Type 0 where
  pub taking : HasBefore g slots filled count t here
  pub lefts : ArePacketsOf g.keys g.boxes (splits_of (frame g)) Left t left
  pub rights : ArePacketsOf g.keys g.boxes (splits_of (frame g)) Right t right
