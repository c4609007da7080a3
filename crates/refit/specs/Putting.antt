-- A tree while the boxes of its live nodes are put back. No public clause cites this module.
use Rattle.std.specs.Prelude.{ℕ, ◌≡◌, ◌<◌, List, length, slice_index}
use Rattle.morton_key.specs.declared.keys.Key.{Key}
use Rattle.fixed_box.specs.declared.shapes.Box3.{Box3}
use Rattle.radix_tree.specs.declared.nodes.Node.{Node}
use Rattle.radix_tree.specs.Split.{split}
use Rattle.radix_tree.specs.Ranges.{IsNode}
use Rattle.radix_tree.specs.Table.{Contents, node_at, IsTable}
use Rattle.radix_tree.specs.Filling.{HasRow}
use Rattle.arrival_core.specs.declared.packets.Packet.{Packet}
use Rattle.arrival_core.specs.Settings.{Setting, frame_of}
use Rattle.box_handoff.specs.LiveNodes.{splits_of}

-- the node of a number has children with these packets
pub record IsNodeOf (keys : List Key) (i : ℕ) (l r : Packet) : Type 0 where
  pub node : IsNode keys i l.first r.last
  pub part : l.last ≡ split keys l.first r.last

-- the nodes with the first so many live splits are fitted, and right rows stayed right
pub record IsPutting (x : Setting) (old : List Node) (now : Contents) (i : ℕ) : Type 0 where
  pub table : IsTable now
  pub keys : now.keys ≡ x.keys
  pub kept : (k : ℕ) → HasRow x.keys x.boxes old k → HasRow x.keys x.boxes now.nodes k
  pub made : (k j : ℕ) → j < i → k < length old → (node_at old k).split ≡ slice_index (splits_of (frame_of x)) j →
      HasRow x.keys x.boxes now.nodes k

-- the first so many nodes are fitted
pub record IsRenewing (keys : List Key) (boxes : List Box3) (now : Contents) (i : ℕ) : Type 0 where
  pub table : IsTable now
  pub keys_are : now.keys ≡ keys
  pub made : (k : ℕ) → k < i → HasRow keys boxes now.nodes k
