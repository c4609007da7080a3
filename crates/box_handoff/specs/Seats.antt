-- What a contract sees of a handoff and of its seats.
use Rattle.std.specs.Prelude.{ℕ, ◌≡◌, ◌<◌, true, false, [], List, length, slice_index_or, All, Any}
use Rattle.atomic_table.specs.Seated.{TableId}
use Rattle.fixed_box.specs.declared.shapes.Box3.{Box3}
use Rattle.morton_key.specs.declared.keys.Key.{Key}
use Rattle.arrival_core.specs.declared.packets.Phase.TheVariants.{Ended}
use Rattle.arrival_core.specs.declared.packets.Tally.{Tally}
use Rattle.arrival_core.specs.Start.{fresh}
use Rattle.radix_tree.specs.Table.{Contents}
use Rattle.arrival_core.specs.Settings.{Setting}
use Rattle.arrival_core.specs.Tasks.{IsWhole}
use Rattle.box_handoff.specs.declared.views.Given.{Given}
use Rattle.box_handoff.specs.declared.views.Entry.{Entry}
use Rattle.box_handoff.specs.declared.seats.HandSeat.{HandSeat}
use Rattle.box_handoff.specs.declared.handoffs.Handoff.{Handoff}
use Rattle.box_handoff.specs.declared.fitted.FittedNodes.{FittedNodes}
use Rattle.box_handoff.specs.Entries.{setting_of, given_of, one, worker_of, total}
use Rattle.box_handoff.specs.Plays.{mine, IsSmall}
use Rattle.box_handoff.specs.Made.{IsMade}
use Rattle.box_handoff.specs.Packets.{over_keys}

-- which table a handoff has
abbrev pub id_of : Handoff → TableId
id_of h = h.table.shared.table_id

-- its keys, boxes, live positions and count of seats
abbrev pub given_by : Handoff → Given
given_by h = given_of h.about

-- the one entry of a seat's view
abbrev pub entry_of : HandSeat → Entry
entry_of s = mine s.seat.me

-- a seat of that table, over the same keys, boxes, live positions and count of seats: its view has one entry, of which
-- its number and its tally are, no slot is out with it, and it has ended, or has not begun
pub record IsSeat (g : Given) (z : TableId) (s : HandSeat) : Type 0 where
  pub table : s.seat.table_id ≡ z
  pub view : s.seat.me.0 ≡ one g (entry_of s)
  pub home : s.seat.me.1 ≡ []
  pub number : s.number ≡ (entry_of s).number
  pub tally : s.tally ≡ (entry_of s).tally
  pub small : IsSmall s.tally
  pub waits : s.ended ≡ false → worker_of (entry_of s) ≡ fresh
  pub done : s.ended ≡ true → (entry_of s).phase ≡ Ended

-- the handoff is as it was made
abbrev pub IsHandoff : Handoff → Type 0
IsHandoff h = IsMade h.table.shared.key.value h.about (id_of h)

-- and the seat is of it
pub record IsSeatOf (h : Handoff) (s : HandSeat) : Type 0 where
  pub made : IsHandoff h
  pub seat : IsSeat (given_by h) (id_of h) s

-- the keys, boxes, live positions and count of seats of a handoff, as the machine's setting
abbrev pub setting_by : Handoff → Setting
setting_by h = setting_of (given_by h)

-- the tree of its keys and of these nodes
abbrev pub tree_by : Handoff → FittedNodes → Contents
tree_by h r = over_keys (given_by h).keys r.nodes.items

-- a handoff over these keys and boxes, of which all leaves are live, with so many seats
pub record IsOver (keys : List Key) (boxes : List Box3) (seats : ℕ) (h : Handoff) : Type 0 where
  pub keys_are : (given_by h).keys ≡ keys
  pub boxes_are : (given_by h).boxes ≡ boxes
  pub seats_are : (given_by h).seats ≡ seats
  pub whole : IsWhole (setting_by h)

-- all seats of the handoff, in the order of their numbers from 0, none begun
pub record AreFresh (h : Handoff) (seats : List HandSeat) : Type 0 where
  pub made : IsHandoff h
  pub count : length seats ≡ (given_by h).seats
  pub own : All (IsSeatOf h) seats
  pub numbers : (k : ℕ) (s : HandSeat) → k < length seats → (slice_index_or seats k s).number ≡ k
  pub unbegun : All (λ s. s.ended ≡ false) seats

-- all seats of the handoff, in any order, each of which has ended
pub record AreAll (h : Handoff) (seats : List HandSeat) : Type 0 where
  pub made : IsHandoff h
  pub count : length seats ≡ (given_by h).seats
  pub own : All (IsSeatOf h) seats
  pub ended : All (λ s. s.ended ≡ true) seats
  pub each : (k : ℕ) → k < (given_by h).seats → Any (λ s. s.number ≡ k) seats

-- the tallies of seats, added up
abbrev pub seat_fits : List HandSeat → ℕ
seat_fits seats = total (λ (s : HandSeat). s.tally.fits) seats

abbrev pub seat_steps : List HandSeat → ℕ
seat_steps seats = total (λ (s : HandSeat). s.tally.steps) seats

pub record IsSumOf (seats : List HandSeat) (t : Tally) : Type 0 where
  pub fits : t.fits ≡ seat_fits seats
  pub steps : t.steps ≡ seat_steps seats
