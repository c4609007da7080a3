-- What the crate's own functions climb. No public contract cites this module.
use Rattle.std.specs.Prelude.{ℕ, ◌≡◌, Bool, false, not, if◌then◌else◌}
use Rattle.morton_key.specs.Keys.{tri_at}
use Rattle.radix_tree.specs.declared.nodes.Child.{Child}
use Rattle.radix_tree.specs.declared.nodes.Child.TheVariants.{Leaf, Inner}
use Rattle.radix_tree.specs.Fit.{box_of_triangle}
use Rattle.arrival_core.specs.declared.packets.Packet.{Packet}
use Rattle.arrival_core.specs.declared.packets.Side.TheVariants.{Left, Right}
use Rattle.arrival_core.specs.declared.packets.Place.TheVariants.{Nothing, Holds}
use Rattle.arrival_core.specs.declared.forks.Branch.{Branch}
use Rattle.arrival_core.specs.declared.forks.Fork.{Fork}
use Rattle.radix_tree.specs.Table.{IsTable, node_at}
use Rattle.arrival_core.specs.declared.terrains.Terrain.{Terrain}
use Rattle.arrival_core.specs.Frames.{Frame, live_at, packet_at}
use Rattle.arrival_core.specs.Settings.{Setting, setting, frame_of, batch_count}
use Rattle.arrival_core.specs.Tasks.{IsTask}

-- a table, a task over it, and the count of its batches
pub record IsTerrain (g : Terrain) : Type 0 where
  pub table : IsTable g.tree.now
  pub task : IsTask (setting g.tree.now.keys g.boxes.now g.live.now 1)
  pub batches_is : g.batches ≡ batch_count g.live.now

-- the setting over a terrain, for so many workers
abbrev pub setting_on : Terrain → ℕ → Setting
setting_on g workers = setting g.tree.now.keys g.boxes.now g.live.now workers

-- its frame, for so many workers
abbrev pub frame_at : Terrain → ℕ → Frame
frame_at g workers = frame_of (setting_on g workers)

-- the packet of a child of the tree, as its table has it
abbrev pub table_packet : Terrain → Child → Packet
table_packet g (Leaf p) = record {
  first = p;
  last = p;
  split = p;
  fit = box_of_triangle g.boxes.now (tri_at g.tree.now.keys p);
}
table_packet g (Inner i) = record {
  first = (node_at g.tree.now.nodes i).first;
  last = (node_at g.tree.now.nodes i).last;
  split = (node_at g.tree.now.nodes i).split;
  fit = (node_at g.tree.now.nodes i).fit;
}

-- a side as it starts
abbrev pub start_branch : Bool → Packet → Branch
start_branch live p = record {
  opened = not live;
  arrived = not live;
  collected = false;
  place = if live then Nothing else Holds p;
}

-- a node as it starts
pub record IsStartFork (f : Frame) (t : ℕ) (c : Fork) : Type 0 where
  pub left : c.left ≡ start_branch (live_at f t Left) (packet_at f t Left)
  pub right : c.right ≡ start_branch (live_at f t Right) (packet_at f t Right)
  pub returned : c.returned ≡ not (f.live_node t)
