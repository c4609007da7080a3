-- Which states are lawful: what the start has and every event keeps. Each part is an equation of counts.
-- Public contracts cite it.
use Rattle.std.specs.Prelude.{ℕ, true, false, ◌≡◌, ◌<◌, ◌≤◌, ◌+◌, ◌*◌, ◌&&◌, [], All}
use Rattle.arrival_core.specs.declared.packets.Packet.{Packet}
use Rattle.arrival_core.specs.declared.packets.Side.{Side}
use Rattle.arrival_core.specs.declared.packets.Side.TheVariants.{Left, Right}
use Rattle.arrival_core.specs.declared.packets.Load.{Load}
use Rattle.arrival_core.specs.declared.packets.Phase.{Phase}
use Rattle.arrival_core.specs.declared.packets.Phase.TheVariants.{Looking, Carry, Opened, Second, Collecting, Ended}
use Rattle.arrival_core.specs.declared.packets.Place.TheVariants.{Holds}
use Rattle.arrival_core.specs.Sums.{bit, sum_below}
use Rattle.arrival_core.specs.Frames.{Frame, other, live_at, packet_at, IsPosition}
use Rattle.arrival_core.specs.States.{Worker, State}
use Rattle.arrival_core.specs.Counts.{has, turn, over, unclaimed, ready, count_opened, count_collecting, count_met, steps_at, is_nothing, is_out_with}

-- a load for a side of a node of the tree, with the packet of the child there
pub record IsLoad (f : Frame) (l : Load) : Type 0 where
  pub node : l.split < f.nodes
  pub packet : l.packet ≡ packet_at f l.split l.side

-- one whose node is collected from the other side alone, and the packet that was found there
pub record IsFound (f : Frame) (s : State) (l : Load) (found : Packet) : Type 0 where
  pub own : IsLoad f l
  pub theirs : found ≡ packet_at f l.split (other l.side)
  pub own_side : s.collected l.split l.side ≡ false
  pub other_side : s.collected l.split (other l.side) ≡ true

-- what a worker in a phase carries is the packet of the child that it carries it for
unfoldable pub Carries : Frame → State → Phase → Type 0
Carries f s Looking = Unit
Carries f s (Carry l) = IsLoad f l
Carries f s (Opened l) = IsLoad f l
Carries f s (Second l) = IsLoad f l
Carries f s (Collecting l found) = IsFound f s l found
Carries f s Ended = Unit

-- a worker that looks has nothing pending and a batch before it; one that has ended has neither
unfoldable pub Fits : Frame → Worker → Phase → Type 0
Fits f w Looking = (w.pending ≡ []) × (w.next < f.batches)
Fits f w (Carry l) = Unit
Fits f w (Opened l) = Unit
Fits f w (Second l) = Unit
Fits f w (Collecting l found) = Unit
Fits f w Ended = (w.pending ≡ []) × (w.next ≡ f.batches)

-- the place of one side holds nothing until the side is opened, is out with the worker whose turn it is, and else holds
-- the packet of its child
pub record IsLawfulPlace (f : Frame) (s : State) (t : ℕ) (d : Side) : Type 0 where
  pub nothing : is_nothing (s.place t d) + bit (s.opened t d) ≡ 1
  pub out : (k : ℕ) → k < f.workers →
      is_out_with k (s.place t d) ≡ turn (s.worker k).phase (s.collected t d) t d
  pub nobody : (k : ℕ) → f.workers ≤ k → is_out_with k (s.place t d) ≡ 0
  pub packet : (p : Packet) → s.place t d ≡ Holds p → p ≡ packet_at f t d

-- one side of a node
pub record IsLawfulSide (f : Frame) (s : State) (t : ℕ) (d : Side) : Type 0 where
  -- a live child that is ready is in one place: in a batch that is not claimed, with a worker, or arrived
  pub once : live_at f t d ≡ true →
      unclaimed f s t d + over f s (has f t d) + bit (s.arrived t d) ≡ ready f s t d
  -- its side is opened where it has arrived or a worker is behind the opening
  pub opened : live_at f t d ≡ true → bit (s.opened t d) ≡ bit (s.arrived t d) + count_opened f s t d
  -- a child that is not live has arrived from the start, and no worker has it
  pub rests_opened : live_at f t d ≡ false → s.opened t d ≡ true
  pub rests_arrived : live_at f t d ≡ false → s.arrived t d ≡ true
  pub rests_alone : live_at f t d ≡ false → over f s (has f t d) ≡ 0
  pub place : IsLawfulPlace f s t d

-- an inner node
pub record IsLawfulNode (f : Frame) (s : State) (t : ℕ) : Type 0 where
  pub left : IsLawfulSide f s t Left
  pub right : IsLawfulSide f s t Right
  -- where both sides have arrived it is returned or one worker is behind the second arrival, and else neither
  pub met : count_met f s t + bit (s.returned t) ≡ bit (s.arrived t Left && s.arrived t Right)
  -- one side is collected where it is returned or a worker collects at it, and else none
  pub collected : f.live_node t ≡ true →
      bit (s.collected t Left) + bit (s.collected t Right) ≡ bit (s.returned t) + count_collecting f s t
  -- a node that is not live is returned from the start, and never collected
  pub rests_returned : f.live_node t ≡ false → s.returned t ≡ true
  pub rests_uncollected : f.live_node t ≡ false → bit (s.collected t Left) + bit (s.collected t Right) ≡ 0

-- a worker
pub record IsLawfulWorker (f : Frame) (s : State) (w : Worker) : Type 0 where
  -- all batches before its next one are claimed
  pub next : w.next ≤ f.batches
  pub claimed : (j : ℕ) → j < w.next → s.claimed j ≡ true
  pub positions : All (IsPosition f) w.pending
  pub phase : Fits f w w.phase
  pub carries : Carries f s w.phase

-- the whole state
pub record IsLawful (f : Frame) (s : State) : Type 0 where
  pub nodes : (t : ℕ) → t < f.nodes → IsLawfulNode f s t
  pub workers : (k : ℕ) → k < f.workers → IsLawfulWorker f s (s.worker k)
  -- the fits of all workers are the live nodes that are returned, their steps the events that are seen
  pub fits : over f s (λ w. w.tally.fits) ≡ sum_below f.nodes (λ t. bit (f.live_node t) * bit (s.returned t))
  pub steps : over f s (λ w. w.tally.steps) ≡ over f s (λ w. w.next) + sum_below f.nodes (steps_at f s)
