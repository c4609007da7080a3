-- The rule of the table: the words, the places at home and the entries of all views show one lawful state.
use Rattle.std.specs.Prelude.{ℕ, ◌≡◌, ◌+◌, ◌<◌, ◌==◌, ◌&&◌, ◌⊎◌, Bool, true, false, not, [], List, length, slice_index}
use Rattle.std.specs.Int.{bit_at}
use mathlib.Core.Option.{Option as Maybe, none, some}
use lib.ListN.{get_elem?}
use Rattle.atomic_table.specs.Table.{State}
use Rattle.arrival_core.specs.declared.packets.Packet.{Packet}
use Rattle.arrival_core.specs.declared.packets.Side.{Side}
use Rattle.arrival_core.specs.declared.packets.Side.TheVariants.{Left, Right}
use Rattle.arrival_core.specs.declared.packets.Phase.TheVariants.{Ended}
use Rattle.arrival_core.specs.declared.packets.Place.{Place}
use Rattle.arrival_core.specs.declared.packets.Place.TheVariants.{Nothing, Holds, Out}
use Rattle.arrival_core.specs.Frames.{Frame}
use Rattle.arrival_core.specs.States as machine
use Rattle.arrival_core.specs.States.{Worker}
use Rattle.arrival_core.specs.Start.{fresh}
use Rattle.arrival_core.specs.Lawful.{IsLawful}
use Rattle.box_handoff.specs.declared.slots.SlotPacket.{SlotPacket}
use Rattle.box_handoff.specs.declared.words.TheConstants.{CLAIMED, OPENED, ARRIVED, COLLECTED, RETURNED, HANDED}
use Rattle.box_handoff.specs.declared.views.Given.{Given}
use Rattle.box_handoff.specs.declared.views.Entry.{Entry}
use Rattle.box_handoff.specs.declared.views.View.{View}
use Rattle.box_handoff.specs.Slots.{packed, blank}
use Rattle.box_handoff.specs.LiveNodes.{Shown, slotted}
use Rattle.box_handoff.specs.Entries.{Numbers, IsGiven, IsNumbered, numbers, frame, after_all, worker_of, total, times, In}

-- the bit of the word says yes
unfoldable pub bit_on : ℕ → ℕ → Bool
bit_on n j = bit_at n j == 1

abbrev pub side_no : Side → ℕ
side_no Left = 0
side_no Right = 1

-- the slot of a child: the one before its parent's number, or the one behind it
abbrev pub slot : ℕ → Side → ℕ
slot t d = t + side_no d

-- the first of the two bits for the sides that are opened, by whether the child has a slot
abbrev pub opened_bit : Bool → ℕ
opened_bit true = HANDED
opened_bit false = OPENED

-- the sides that are opened for a child that has a slot, and those for one that has none
abbrev pub by_slot : Frame → (ℕ → Side → Bool) → ℕ → Side → Bool
by_slot f bits t d = bits t d && slotted f t d

abbrev pub by_word : Frame → (ℕ → Side → Bool) → ℕ → Side → Bool
by_word f bits t d = bits t d && not (slotted f t d)

-- the word of a node, behind those of the batches
abbrev pub node_word : Frame → Numbers → List ℕ → ℕ → ℕ
node_word f num words t = slice_index words (f.batches + num.number t)

-- a bit of each side, from a number of bits on
abbrev pub ShowsSide : Frame → Numbers → List ℕ → ℕ → (ℕ → Side → Bool) → Type 0
ShowsSide f num words base bits = (t : ℕ) (d : Side) → Shown f t →
    bits t d ≡ bit_on (node_word f num words t) (base + side_no d)

abbrev pub ShowsNode : Frame → Numbers → List ℕ → ℕ → (ℕ → Bool) → Type 0
ShowsNode f num words base bits = (t : ℕ) → Shown f t → bits t ≡ bit_on (node_word f num words t) base

abbrev pub ShowsBatch : Frame → List ℕ → (ℕ → Bool) → Type 0
ShowsBatch f words bits = (j : ℕ) → j < f.batches → bits j ≡ bit_on (slice_index words j) CLAIMED

-- what is in a slot at home, or that it is out, shows a place
pub data ShowsPlace (d : Side) : Maybe SlotPacket → Place → Type 0 where
  out : (k : ℕ) → ShowsPlace d none (Out k)
  empty : ShowsPlace d (some blank) Nothing
  full : (p : Packet) → ShowsPlace d (some (packed d p)) (Holds p)

-- the slots show the places of the children that have one
abbrev pub ShowsPlaces : Frame → Numbers → List (Maybe SlotPacket) → (ℕ → Side → Place) → Type 0
ShowsPlaces f num homes places = (t : ℕ) (d : Side) → Shown f t → slotted f t d ≡ true →
    (h : Maybe SlotPacket) × (get_elem? homes (slot (num.number t) d) ≡ some h) × ShowsPlace d h (places t d)

pub record Shows (f : Frame) (num : Numbers) (words : List ℕ) (homes : List (Maybe SlotPacket))
    (m : machine.State) : Type 0 where
  pub word_count : length words ≡ f.batches + num.count
  pub slot_count : length homes ≡ num.count + 1
  pub claims : ShowsBatch f words m.claimed
  pub opened : ShowsSide f num words OPENED (by_word f m.opened)
  pub handed : ShowsSide f num words HANDED (by_slot f m.opened)
  pub arrived : ShowsSide f num words ARRIVED m.arrived
  pub collected : ShowsSide f num words COLLECTED m.collected
  pub returned : ShowsNode f num words RETURNED m.returned
  pub places : ShowsPlaces f num homes m.place

-- an entry's worker is what its list of events gives
pub record IsHonest (f : Frame) (e : Entry) : Type 0 where
  pub worker : worker_of e ≡ after_all f fresh e.events

-- where there are several entries, none has begun, or all have ended
abbrev pub AreTogether : List Entry → Type 0
AreTogether es = 1 < length es → ((e : Entry) → In e es → e.events ≡ []) ⊎ ((e : Entry) → In e es → e.phase ≡ Ended)

-- the entries of all views, taken by number, are these workers
pub record Rostered (g : Given) (views : List View) (ws : ℕ → Worker) : Type 0 where
  pub same : (id : ℕ) (v : View) → get_elem? views id ≡ some v → (e : Entry) → In e v.entries → v.given ≡ g
  pub once : (i : ℕ) → i < g.seats → total (λ v. times i v.entries) views ≡ 1
  pub known : (id : ℕ) (v : View) → get_elem? views id ≡ some v → (e : Entry) → In e v.entries → e.number < g.seats
  pub honest : (id : ℕ) (v : View) → get_elem? views id ≡ some v → (e : Entry) → In e v.entries → IsHonest (frame g) e
  pub together : (id : ℕ) (v : View) → get_elem? views id ≡ some v → AreTogether v.entries
  pub worker : (id : ℕ) (v : View) → get_elem? views id ≡ some v → (e : Entry) → In e v.entries →
      ws e.number ≡ worker_of e

-- what a handoff may be given; the words, the places at home and the entries of all views show one lawful state over it
pub record Rule (g : Given) (s : State SlotPacket View) : Type 0 where
  pub given : IsGiven g
  pub numbered : IsNumbered (frame g) (numbers g)
  pub machine : machine.State
  pub shows : Shows (frame g) (numbers g) s.words s.homes machine
  pub lawful : IsLawful (frame g) machine
  pub rostered : Rostered g s.views machine.worker
