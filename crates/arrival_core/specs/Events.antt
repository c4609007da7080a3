-- The five events of the arrival machine: take, open, arrive, collect, leave. Public contracts cite them.
-- Each is one change of the whole state, and counts as a step of the worker that makes it.
use Rattle.std.specs.Prelude.{ℕ, Bool, true, false, ◌+◌, ◌==◌, ◌&&◌, if◌then◌else◌, List, [], ◌∷◌, Option, Some, None}
use Rattle.fixed_box.specs.Extent.{union_of}
use Rattle.arrival_core.specs.declared.packets.Packet.{Packet}
use Rattle.arrival_core.specs.declared.packets.Side.{Side}
use Rattle.arrival_core.specs.declared.packets.Side.TheVariants.{Left, Right}
use Rattle.arrival_core.specs.declared.packets.Load.{Load}
use Rattle.arrival_core.specs.declared.packets.Phase.{Phase}
use Rattle.arrival_core.specs.declared.packets.Phase.TheVariants.{Looking, Carry, Opened, Second, Collecting, Ended}
use Rattle.arrival_core.specs.declared.packets.Place.{Place}
use Rattle.arrival_core.specs.declared.packets.Place.TheVariants.{Nothing, Holds, Out}
use Rattle.arrival_core.specs.declared.packets.Tally.{Tally}
use Rattle.arrival_core.specs.declared.packets.Up.{Up}
use Rattle.arrival_core.specs.Frames.{Frame, other}
use Rattle.arrival_core.specs.States.{Worker, State}

-- whether two sides are one
abbrev pub same_side : Side → Side → Bool
same_side Left Left = true
same_side Left Right = false
same_side Right Left = false
same_side Right Right = true

-- whether two sides of nodes are one
unfoldable pub same : ℕ → Side → ℕ → Side → Bool
same s d t e = s == t && same_side d e

-- a function with another value at one number
unfoldable pub put : {X : Type 0} → (ℕ → X) → ℕ → X → ℕ → X
put f k x i = if k == i then x else f i

-- and at one side of one node
unfoldable pub put_side : {X : Type 0} → (ℕ → Side → X) → ℕ → Side → X → ℕ → Side → X
put_side f s d x t e = if same s d t e then x else f t e

-- the packet of a node: the left child's first, the right child's last, its own split, and the least box round both
-- boxes; made of the packet of the child on one side and that of the other child
abbrev pub join : ℕ → Side → Packet → Packet → Packet
join s Left own found = record { first = own.first; last = found.last; split = s; fit = union_of own.fit found.fit }
join s Right own found = record { first = found.first; last = own.last; split = s; fit = union_of found.fit own.fit }

-- a worker that carries nothing takes up the first of its pending positions; where none is pending it looks for a
-- batch, and where no batch is left it has ended
abbrev pub resume : Frame → ℕ → List ℕ → Tally → Worker
resume f next [] tally =
    record { next = next; pending = []; phase = if next == f.batches then Ended else Looking; tally = tally }
resume f next (p ∷ ps) tally = record {
  next = next;
  pending = ps;
  phase = Carry (record {
    split = (f.above_leaf p).split;
    side = (f.above_leaf p).side;
    packet = f.leaf_packet p;
  });
  tally = tally;
}

-- the tally after an event
abbrev pub stepped : Tally → Tally
stepped t = record { fits = t.fits; steps = t.steps + 1 }

-- the tally after the event that fits a node
abbrev pub fitted : Tally → Tally
fitted t = record { fits = t.fits + 1; steps = t.steps + 1 }

-- the packet in a place, or the other one where the place holds none
abbrev pub held : Place → Packet → Packet
held Nothing none = none
held (Holds p) none = p
held (Out k) none = none

-- take: the worker claims its next batch; where it is the first to do so, the positions of the batch are its own
unfoldable pub take : Frame → ℕ → State → State
take f k s = record s {
  claimed = put s.claimed (s.worker k).next true;
  worker = put s.worker k (resume f ((s.worker k).next + 1)
      (if s.claimed (s.worker k).next then [] else f.batch (s.worker k).next) (stepped (s.worker k).tally));
}

-- open: it opens the side for its packet, and the place goes out to it
unfoldable pub open_side : ℕ → Load → State → State
open_side k l s = record s {
  opened = put_side s.opened l.split l.side true;
  place = put_side s.place l.split l.side (Out k);
  worker = put s.worker k (record (s.worker k) { phase = Opened l; tally = stepped (s.worker k).tally });
}

-- arrive: it gives the place back with its packet in it; it stays with the node where the other side has arrived before
unfoldable pub arrive : Frame → ℕ → Load → State → State
arrive f k l s = record s {
  arrived = put_side s.arrived l.split l.side true;
  place = put_side s.place l.split l.side (Holds l.packet);
  worker = put s.worker k (if s.arrived l.split (other l.side)
      then record (s.worker k) { phase = Second l; tally = stepped (s.worker k).tally }
      else resume f (s.worker k).next (s.worker k).pending (stepped (s.worker k).tally));
}

-- collect: the other side's place goes out to it, and it keeps the packet that stood there beside its own
unfoldable pub collect : ℕ → Load → State → State
collect k l s = record s {
  collected = put_side s.collected l.split (other l.side) true;
  place = put_side s.place l.split (other l.side) (Out k);
  worker = put s.worker k (record (s.worker k) {
    phase = Collecting l (held (s.place l.split (other l.side)) l.packet);
    tally = stepped (s.worker k).tally;
  });
}

-- a worker with the packet of a node, for what stands above it
abbrev pub go_up : Frame → Option Up → Packet → Worker → Worker
go_up f None packet w = resume f w.next w.pending (fitted w.tally)
go_up f (Some u) packet w = record w {
  phase = Carry (record { split = u.split; side = u.side; packet = packet });
  tally = fitted w.tally;
}

-- leave: it gives that place back with the packet that stood there, the node is returned, and it carries the packet of
-- the node to the parent
unfoldable pub leave : Frame → ℕ → Load → Packet → State → State
leave f k l found s = record s {
  returned = put s.returned l.split true;
  place = put_side s.place l.split (other l.side) (Holds found);
  worker = put s.worker k (go_up f (f.above_node l.split) (join l.split l.side l.packet found) (s.worker k));
}

-- the one next event of a worker in a phase; none where it has ended
unfoldable pub event_in : Frame → ℕ → Phase → State → State
event_in f k Looking s = take f k s
event_in f k (Carry l) s = open_side k l s
event_in f k (Opened l) s = arrive f k l s
event_in f k (Second l) s = collect k l s
event_in f k (Collecting l found) s = leave f k l found s
event_in f k Ended s = s

-- the state after the next event of worker k
unfoldable pub event : Frame → ℕ → State → State
event f k s = event_in f k (s.worker k).phase s

-- whether a worker in a phase has a next event: it has none where it has ended
unfoldable pub has_event : Phase → Bool
has_event Looking = true
has_event (Carry l) = true
has_event (Opened l) = true
has_event (Second l) = true
has_event (Collecting l found) = true
has_event Ended = false
