-- A worker by its list of events, and the entries of views.
use Rattle.std.specs.Prelude.{ℕ, suc, zero, ◌≡◌, ◌<◌, ◌≤◌, ◌+◌, ◌==◌, cond, if◌then◌else◌, List, [], ◌∷◌, ◌++◌, length, Option, Some, None}
use mathlib.Core.Option.{some}
use lib.ListN.{get_elem?}
use Rattle.arrival_core.specs.declared.packets.TheConstants.{MOST_WORKERS}
use Rattle.arrival_core.specs.declared.packets.Phase.{Phase}
use Rattle.arrival_core.specs.declared.packets.Phase.TheVariants.{Looking, Carry, Opened, Second, Collecting}
use Rattle.arrival_core.specs.Frames.{Frame, other, packet_at}
use Rattle.arrival_core.specs.States.{Worker}
use Rattle.arrival_core.specs.Events.{resume, stepped, join, go_up}
use Rattle.arrival_core.specs.Start.{fresh}
use Rattle.arrival_core.specs.Settings.{Setting, frame_of}
use Rattle.arrival_core.specs.Tasks.{IsTask, FitsButFor}
use Rattle.radix_tree.specs.Table.{Contents, IsTable}
use Rattle.box_handoff.specs.declared.views.Event.{Event}
use Rattle.box_handoff.specs.declared.views.Event.TheVariants.{Take, Open, Arrive, Collect, Leave}
use Rattle.box_handoff.specs.declared.views.Given.{Given}
use Rattle.box_handoff.specs.declared.views.Entry.{Entry}
use Rattle.box_handoff.specs.declared.views.View.{View}
use Rattle.box_handoff.specs.declared.views.Spots.{Spots}
use Rattle.box_handoff.specs.declared.views.About.{About}
use Rattle.box_handoff.specs.LiveNodes.{Shown, AreSpots}

abbrev pub setting_of : Given → Setting
setting_of g = record { keys = g.keys; boxes = g.boxes; live = g.live; workers = g.seats }

unfoldable pub frame : Given → Frame
frame g = frame_of (setting_of g)

abbrev pub spots_of : Option Spots → Option (List ℕ)
spots_of None = None
spots_of (Some s) = Some s.splits.items

abbrev pub tree_of : Option Spots → Option Contents
tree_of None = None
tree_of (Some s) = Some s.tree.now

abbrev pub given_of : About → Given
given_of a = record {
  keys = a.keys.now;
  boxes = a.boxes.now;
  live = a.live.items;
  seats = a.seats;
  spots = spots_of a.spots;
  tree = tree_of a.spots;
}

-- a tree of the same keys, fitted wherever nothing is live
pub record IsResting (g : Given) (t : Contents) : Type 0 where
  pub keys_are : g.keys ≡ t.keys
  pub table : IsTable t
  pub rest : FitsButFor t g.boxes g.live

-- what is not live rests in such a tree, where there is one
abbrev pub Rests : Given → Option Contents → Type 0
Rests g None = Unit {0}
Rests g (Some t) = IsResting g t

-- what a handoff may be given: what the machine may be set to, seats for its workers, the splits of its live nodes, and
-- the tree in which the others rest
pub record IsGiven (g : Given) : Type 0 where
  pub task : IsTask (setting_of g)
  pub few : g.seats ≤ MOST_WORKERS
  pub spots : AreSpots (frame g) g.spots
  pub rests : Rests g g.tree

-- how many nodes a table has words for, and which number each has there
pub record Numbers : Type 0 where
  pub count : ℕ
  pub number : ℕ → ℕ

-- where a number stands in a list
unfoldable pub place_in : List ℕ → ℕ → ℕ
place_in [] t = 0
place_in (x ∷ xs) t = if x == t then 0 else suc (place_in xs t)

-- each listed node has a word, in the order of the list; with no list each of all nodes, by its split
unfoldable pub numbers_in : ℕ → Option (List ℕ) → Numbers
numbers_in nodes None = record { count = nodes; number = λ t. t }
numbers_in nodes (Some spots) = record { count = length spots; number = place_in spots }

unfoldable pub numbers : Given → Numbers
numbers g = numbers_in (frame g).nodes g.spots

-- each live node has a number of its own, in the order of their splits, and each number is a live node's
pub record IsNumbered (f : Frame) (num : Numbers) : Type 0 where
  pub within : (t : ℕ) → Shown f t → num.number t < num.count
  pub apart : (s t : ℕ) → Shown f s → Shown f t → num.number s ≡ num.number t → s ≡ t
  pub rising : (s t : ℕ) → Shown f s → Shown f t → s < t → num.number s < num.number t
  pub each : (i : ℕ) → i < num.count → (t : ℕ) × Shown f t × (num.number t ≡ i)

-- what one event makes of a worker in a phase
abbrev pub moved : Frame → Worker → Event → Phase → Worker
moved f w (Take was) Looking = resume f (w.next + 1) (if was then [] else f.batch w.next) (stepped w.tally)
moved f w Open (Carry l) = record w { phase = Opened l; tally = stepped w.tally }
moved f w (Arrive was) (Opened l) = if was then record w { phase = Second l; tally = stepped w.tally } else resume f
    w.next w.pending (stepped w.tally)
moved f w Collect (Second l) = record w {
  phase = Collecting l
      (packet_at f l.split (other l.side));
  tally = stepped w.tally;
}
moved f w Leave (Collecting l found) = go_up f (f.above_node l.split) (join l.split l.side l.packet found) w
moved f w e p = w

unfoldable pub after : Frame → Worker → Event → Worker
after f w e = moved f w e w.phase

-- what a list of events makes of a worker
unfoldable pub after_all : Frame → Worker → List Event → Worker
after_all f w [] = w
after_all f w (e ∷ es) = after_all f (after f w e) es

abbrev pub worker_of : Entry → Worker
worker_of e = record { next = e.next; pending = e.pending; phase = e.phase; tally = e.tally }

abbrev pub entry : ℕ → Worker → List Event → Entry
entry k w es = record { number = k; next = w.next; pending = w.pending; phase = w.phase; tally = w.tally; events = es }

-- the entry after one event more
abbrev pub grown : Frame → Entry → Event → Entry
grown f e ev = entry e.number (after f (worker_of e) ev) (e.events ++ ev ∷ [])

abbrev pub unbegun : ℕ → Entry
unbegun k = entry k fresh []

-- the entries of the numbers below n, none begun
unfoldable pub unbegun_below : ℕ → List Entry
unbegun_below zero = []
unbegun_below (suc n) = unbegun_below n ++ unbegun n ∷ []

abbrev pub first_view : Given → View
first_view g = record { given = g; entries = unbegun_below g.seats }

abbrev pub one : Given → Entry → View
one g e = record { given = g; entries = e ∷ [] }

-- f of each, added up
abbrev pub total : {A : Type 0} → (A → ℕ) → List A → ℕ
total f [] = 0
total f (x ∷ xs) = f x + total f xs

-- how often the number stands among these entries
abbrev pub times : ℕ → List Entry → ℕ
times i entries = total (λ e. cond (e.number == i) 1 0) entries

abbrev pub In : {A : Type 0} → A → List A → Type 0
In x xs = (k : ℕ) × (get_elem? xs k ≡ some x)

-- all but the last, and the last
abbrev pub front_of : List Entry → List Entry
front_of [] = []
front_of (e ∷ []) = []
front_of (e ∷ f ∷ es) = e ∷ front_of (f ∷ es)

abbrev pub last_of : List Entry → List Entry
last_of [] = []
last_of (e ∷ []) = e ∷ []
last_of (e ∷ f ∷ es) = last_of (f ∷ es)
