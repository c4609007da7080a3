-- How a seat's list of events grows.
use Rattle.std.specs.Prelude.{true, ℕ, ◌≡◌, ◌<◌, ◌∷◌, [], List, ◌++◌, ◌+◌, ◌^◌, Option, Some, None}
use Rattle.std.specs.declared.snapshot.Snapshot.{Snapshot}
use Rattle.atomic_table.specs.Seated.{TableId}
use Rattle.atomic_table.specs.declared.shared.Seat.{Seat}
use Rattle.arrival_core.specs.declared.packets.Tally.{Tally}
use Rattle.arrival_core.specs.declared.packets.Packet.{Packet}
use Rattle.arrival_core.specs.declared.packets.Load.{Load}
use Rattle.arrival_core.specs.declared.packets.Up.{Up}
use Rattle.arrival_core.specs.declared.packets.Phase.{Phase}
use Rattle.arrival_core.specs.declared.packets.Phase.TheVariants.{Looking, Carry, Opened, Second, Collecting}
use Rattle.arrival_core.specs.Frames.{Frame, live_at, packet_at}
use Rattle.arrival_core.specs.Events.{stepped, resume, join}
use Rattle.arrival_core.specs.States.{Worker}
use Rattle.box_handoff.specs.declared.slots.SlotPacket.{SlotPacket}
use Rattle.box_handoff.specs.declared.views.Event.{Event}
use Rattle.box_handoff.specs.declared.views.Event.TheVariants.{Take, Open, Arrive, Collect, Leave}
use Rattle.box_handoff.specs.declared.views.Given.{Given}
use Rattle.box_handoff.specs.declared.views.Entry.{Entry}
use Rattle.box_handoff.specs.declared.views.View.{View}
use Rattle.box_handoff.specs.LiveNodes.{Shown}
use Rattle.box_handoff.specs.declared.views.About.{About}
use Rattle.box_handoff.specs.Made.{given_in, frame_in, numbers_in}
use Rattle.box_handoff.specs.Entries.{IsGiven, numbers, frame, one, grown, after, after_all, worker_of}
use Rattle.box_handoff.specs.Plays.{Mine, mine, IsSmall}

-- the event is the one that a phase names
abbrev pub IsDue : Phase → Event → Type 0
IsDue Looking (Take was) = Unit {0}
IsDue (Carry l) Open = Unit {0}
IsDue (Opened l) (Arrive was) = Unit {0}
IsDue (Second l) Collect = Unit {0}
IsDue (Collecting l found) Leave = Unit {0}
IsDue p e = ⊥

-- each event is the one that is due where the events before it lead
unfoldable pub AreDue : Frame → Worker → List Event → Type 0
AreDue f w [] = Unit {0}
AreDue f w (e ∷ es) = IsDue w.phase e × AreDue f (after f w e) es

-- an entry's list of events grew, by events that were due
pub record Grew (f : Frame) (old new : Entry) : Type 0 where
  pub number : new.number ≡ old.number
  pub more : List Event
  pub events : new.events ≡ old.events ++ more
  pub due : AreDue f (worker_of old) more
  pub worker : worker_of new ≡ after_all f (worker_of old) more

-- the seat is the same, of one entry whose list of events grew, and no place is out with it
pub record Climbed (g : Given) (old new : Seat SlotPacket View) : Type 0 where
  pub table : new.table_id ≡ old.table_id
  pub id : new.id ≡ old.id
  pub view : new.me.0 ≡ one g (mine new.me)
  pub home : new.me.1 ≡ []
  pub grew : Grew (frame g) (mine old.me) (mine new.me)
  pub small : IsSmall (mine old.me).tally → IsSmall (mine new.me).tally

-- a table over what it tells about: it has words for the batches, and behind them one for each node
pub record IsTold (about : About) (key : Snapshot About) (z : TableId) (base : ℕ) : Type 0 where
  pub key_is : key.value ≡ about
  pub batches : base ≡ (frame_in key).batches
  pub words : z.words ≡ (frame_in key).batches + (numbers_in key).count
  pub room : z.words < 2 ^ 60
  pub given : IsGiven (given_in key)

-- a load for a side of a live node, with the packet of the live child there
pub record IsCarried (f : Frame) (l : Load) : Type 0 where
  pub node : l.split < f.nodes
  pub live : f.live_node l.split ≡ true
  pub own : live_at f l.split l.side ≡ true
  pub packet : l.packet ≡ packet_at f l.split l.side

-- the number of a live node
pub record IsPlace (g : Given) (place split : ℕ) : Type 0 where
  pub seen : Shown (frame g) split
  pub number : place ≡ (numbers g).number split
  pub within : place < (numbers g).count

-- a seat of one entry had one event, which was due
pub record Did (g : Given) (old new : Mine) (ev : Event) : Type 0 where
  pub view : new.0 ≡ one g (mine new)
  pub entry : mine new ≡ grown (frame g) (mine old) ev
  pub due : IsDue (mine old).phase ev
  pub small : IsSmall (mine new).tally

-- the entry's worker is in that phase, after one step more
abbrev pub in_phase : Entry → Phase → Worker
in_phase e p = record { next = e.next; pending = e.pending; phase = p; tally = stepped e.tally }

-- who comes first at a node goes on with what it has yet to take off, after two steps
abbrev pub came_first : Frame → Entry → Worker
came_first f e = resume f e.next e.pending (record { fits = e.tally.fits; steps = e.tally.steps + 2 })

-- a worker takes a packet to what stands above it, if anything does
abbrev pub takes_up : Frame → Option Up → Packet → ℕ → List ℕ → Tally → Worker
takes_up f None p next pending tally = resume f next pending tally
takes_up f (Some u) p next pending tally = record {
  next = next;
  pending = pending;
  phase = Carry (record { split = u.split; side = u.side; packet = p });
  tally = tally;
}

-- who comes second finds the other side's packet there, after two steps
abbrev pub finds_other : Load → Entry → Worker
finds_other l e = record {
  next = e.next;
  pending = e.pending;
  phase = Second l;
  tally = record { fits = e.tally.fits; steps = e.tally.steps + 2 };
}

-- it leaves with the node's packet, after two steps more and a fit
abbrev pub leaves_with : Frame → Load → Packet → Worker → Worker
leaves_with f l found w =
    takes_up f (f.above_node l.split) (join l.split l.side l.packet found) w.next w.pending
    (record { fits = w.tally.fits + 1; steps = w.tally.steps + 2 })

-- who comes second takes the node's packet up, after four steps and a fit
abbrev pub came_second : Frame → ℕ → Packet → Entry → Worker
came_second f s p e =
    takes_up f (f.above_node s) p e.next e.pending (record { fits = e.tally.fits + 1; steps = e.tally.steps + 4 })

-- the seat climbed, and carries the load now; what it has yet to take off is as it was
pub record Carrying (g : Given) (old cur : Seat SlotPacket View) (load : Load) (tally : Tally) : Type 0 where
  pub climbed : Climbed g old cur
  pub phase : (mine cur.me).phase ≡ Carry load
  pub load_is : IsCarried (frame g) load
  pub tally_is : tally ≡ (mine cur.me).tally
  pub next : (mine cur.me).next ≡ (mine old.me).next
  pub pending : (mine cur.me).pending ≡ (mine old.me).pending

-- the seat climbed, and goes on with so much
pub record Working (g : Given) (old cur : Seat SlotPacket View) (next : ℕ) (pending : List ℕ)
    (tally : Tally) : Type 0 where
  pub climbed : Climbed g old cur
  pub worker : worker_of (mine cur.me) ≡ resume (frame g) next pending tally
