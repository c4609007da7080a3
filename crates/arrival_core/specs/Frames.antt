-- What the machine sees of a tree: what stands above what, and the packet of each child. Public contracts cite it.
-- An inner node is named by its split, a number from 0 on; each number names one node.
use Rattle.std.specs.Prelude.{ℕ, suc, Bool, List, Option, ◌<◌}
use Rattle.arrival_core.specs.declared.packets.Packet.{Packet}
use Rattle.arrival_core.specs.declared.packets.Side.{Side}
use Rattle.arrival_core.specs.declared.packets.Up.{Up}
use Rattle.arrival_core.specs.declared.packets.Side.TheVariants.{Left, Right}

-- the other side of a node
abbrev pub other : Side → Side
other Left = Right
other Right = Left

-- what stands on a side of an inner node: the leaf at a position, or the inner node with a split
pub data Below : Type 0 where
  leaf : ℕ → Below
  inner : ℕ → Below

pub record Frame : Type 0 where
  -- how many inner nodes and workers there are
  pub nodes : ℕ
  pub workers : ℕ
  -- the batches of live positions
  pub batches : ℕ
  pub batch : ℕ → List ℕ
  -- what stands on a side of a node, and above what; nothing is above the root
  pub child : ℕ → Side → Below
  pub above_leaf : ℕ → Up
  pub above_node : ℕ → Option Up
  -- the packet of a leaf, by its position, and that of an inner node
  pub leaf_packet : ℕ → Packet
  pub node_packet : ℕ → Packet
  -- whether a leaf is live, and whether an inner node has a live leaf below it
  pub live_leaf : ℕ → Bool
  pub live_node : ℕ → Bool

-- the packet of what stands there
unfoldable pub packet_below : Frame → Below → Packet
packet_below f (leaf p) = f.leaf_packet p
packet_below f (inner t) = f.node_packet t

-- whether what stands there is live
unfoldable pub live_below : Frame → Below → Bool
live_below f (leaf p) = f.live_leaf p
live_below f (inner t) = f.live_node t

-- the packet of the child on a side of a node
unfoldable pub packet_at : Frame → ℕ → Side → Packet
packet_at f s d = packet_below f (f.child s d)

-- whether the child on a side of a node is live
unfoldable pub live_at : Frame → ℕ → Side → Bool
live_at f s d = live_below f (f.child s d)

-- the position is that of a leaf, of which there is one more than inner nodes
abbrev pub IsPosition : Frame → ℕ → Type 0
IsPosition f p = p < suc f.nodes
