-- What the machine rests on: the laws of a frame that is a tree with batches of its live leaves.
-- No public contract cites this module; that of every setting has them (`Framing.frame_lawful`).
use Rattle.std.specs.Prelude.{ℕ, ◌≡◌, ◌<◌, ◌||◌, All, Some}
use Rattle.arrival_core.specs.declared.packets.Side.{Side}
use Rattle.arrival_core.specs.declared.packets.Side.TheVariants.{Left, Right}
use Rattle.arrival_core.specs.Sums.{bit, sum_below}
use Rattle.arrival_core.specs.declared.packets.Up.{Up}
use Rattle.arrival_core.specs.Frames.{Frame, live_at, packet_at, IsPosition}
use Rattle.arrival_core.specs.Frames.Below.{leaf, inner}
use Rattle.arrival_core.specs.Events.{join}
use Rattle.arrival_core.specs.Counts.{times}

pub record IsFrame (f : Frame) : Type 0 where
  -- a leaf is the child of the node above it
  pub leaf_node : (p : ℕ) → IsPosition f p → (f.above_leaf p).split < f.nodes
  pub leaf_child : (p : ℕ) → IsPosition f p → f.child (f.above_leaf p).split (f.above_leaf p).side ≡ leaf p
  -- an inner node is the child of the node above it, and of no other
  pub up_node : (i : ℕ) (u : Up) → i < f.nodes → f.above_node i ≡ Some u → u.split < f.nodes
  pub up_child : (i : ℕ) (u : Up) → i < f.nodes → f.above_node i ≡ Some u → f.child u.split u.side ≡ inner i
  pub child_node : (t : ℕ) (d : Side) (i : ℕ) → t < f.nodes → f.child t d ≡ inner i → i < f.nodes
  pub child_up : (t : ℕ) (d : Side) (i : ℕ) → t < f.nodes → f.child t d ≡ inner i →
      f.above_node i ≡ Some (record { split = t; side = d })
  -- children are lower than their node
  pub height : ℕ → ℕ
  pub lower : (t : ℕ) (d : Side) (i : ℕ) → t < f.nodes → f.child t d ≡ inner i → height i < height t
  -- the packet of a node is made of its children's
  pub packet : (t : ℕ) → t < f.nodes → f.node_packet t ≡ join t Left (packet_at f t Left) (packet_at f t Right)
  -- a node is live where one of its children is
  pub live : (t : ℕ) → t < f.nodes → f.live_node t ≡ (live_at f t Left || live_at f t Right)
  -- there is a batch; a live leaf is once in the batches, and no other child is
  pub some_batch : 0 < f.batches
  pub positions : (j : ℕ) → j < f.batches → All (IsPosition f) (f.batch j)
  pub batched_leaf : (t : ℕ) (d : Side) (p : ℕ) → t < f.nodes → f.child t d ≡ leaf p →
      sum_below f.batches (λ j. times f (f.batch j) t d) ≡ bit (f.live_leaf p)
  pub batched_inner : (t : ℕ) (d : Side) (i : ℕ) → t < f.nodes → f.child t d ≡ inner i →
      sum_below f.batches (λ j. times f (f.batch j) t d) ≡ 0
