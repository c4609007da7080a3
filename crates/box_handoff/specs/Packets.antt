-- What a contract sees of fitted boxes: the packet of each child of each inner node.
use Rattle.std.specs.Prelude.{ℕ, ◌≡◌, ◌<◌, ◌-◌, List, length, slice_index, slice_index_or}
use Rattle.fixed_box.specs.declared.shapes.Box3.{Box3}
use Rattle.morton_key.specs.declared.keys.Key.{Key}
use Rattle.morton_key.specs.Keys.{tri_at}
use Rattle.radix_tree.specs.declared.nodes.Node.{Node}
use Rattle.radix_tree.specs.Table.{Contents}
use Rattle.radix_tree.specs.Fit.{box_of_triangle, boxes_in, least_box_of}
use Rattle.arrival_core.specs.declared.packets.Packet.{Packet}
use Rattle.arrival_core.specs.declared.packets.Side.{Side}
use Rattle.arrival_core.specs.declared.packets.Side.TheVariants.{Left, Right}
use Rattle.arrival_core.specs.Frames.{Below}
use Rattle.arrival_core.specs.Frames.Below.{leaf, inner}
use Rattle.arrival_core.specs.Settings.{Setting, row_of, child_of, frame_of}
use Rattle.box_handoff.specs.LiveNodes.{splits_of}
use Rattle.box_handoff.specs.declared.fitted.Fitted.{Fitted}

-- the packet of a leaf, with its triangle's box, and of the inner node with that split, with the least box of its range
unfoldable pub packet_of : List Key → List Box3 → Below → Packet
packet_of keys boxes (leaf p) =
    record { first = p; last = p; split = p; fit = box_of_triangle boxes (tri_at keys p) }
packet_of keys boxes (inner s) = record {
  first = (row_of keys s).first;
  last = (row_of keys s).last;
  split = s;
  fit = least_box_of (boxes_in boxes keys (row_of keys s).first (row_of keys s).last);
}

-- the packet of a child of the inner node with that split
abbrev pub child_packet : List Key → List Box3 → ℕ → Side → Packet
child_packet keys boxes s d = packet_of keys boxes (child_of keys s d)

-- the packets of so many nodes' children on one side, from the node with the least split on
pub record ArePackets (keys : List Key) (boxes : List Box3) (d : Side) (count : ℕ)
    (packets : List Packet) : Type 0 where
  pub count_is : length packets ≡ count
  pub each : (s : ℕ) (p : Packet) → s < count → slice_index_or packets s p ≡ child_packet keys boxes s d

-- the packets of the children, on one side, of the first so many of the inner nodes with these splits
pub record ArePacketsOf (keys : List Key) (boxes : List Box3) (splits : List ℕ) (d : Side) (count : ℕ)
    (packets : List Packet) : Type 0 where
  pub count_is : length packets ≡ count
  pub each : (i : ℕ) (p : Packet) → i < count →
      slice_index_or packets i p ≡ child_packet keys boxes (slice_index splits i) d

-- at place i stand the packets of the two children of the live inner node with the split of place i among these
pub record AreLiveFitted (x : Setting) (fitted : Fitted) : Type 0 where
  pub left : ArePacketsOf x.keys x.boxes (splits_of (frame_of x)) Left (length (splits_of (frame_of x))) fitted.left.items
  pub right : ArePacketsOf x.keys x.boxes (splits_of (frame_of x)) Right (length (splits_of (frame_of x)))
      fitted.right.items

-- at place s stand the packets of the two children of the inner node whose split is s
pub record AreFitted (keys : List Key) (boxes : List Box3) (x : Fitted) : Type 0 where
  pub left : ArePackets keys boxes Left (length keys - 1) x.left.items
  pub right : ArePackets keys boxes Right (length keys - 1) x.right.items

-- the tree of these keys and nodes
abbrev pub over_keys : List Key → List Node → Contents
over_keys keys nodes = record { keys = keys; nodes = nodes }
