-- The machine's frame over keys in order: ranges and splits are those of the recursion from the top.
-- Public contracts cite it.
use Rattle.std.specs.Prelude.{ℕ, suc, Bool, ◌+◌, ◌*◌, ◌-◌, ◌/◌, ◌==◌, ◌&&◌, nat_le, if◌then◌else◌, List, length, take, drop, Option, Some, None, find}
use Rattle.std.specs.List.{list_any}
use Rattle.fixed_box.specs.declared.shapes.Box3.{Box3}
use Rattle.morton_key.specs.declared.keys.Key.{Key}
use Rattle.morton_key.specs.Keys.{tri_at}
use Rattle.radix_tree.specs.Split.{split}
use Rattle.radix_tree.specs.Shape.{Row, rows, shape_of}
use Rattle.radix_tree.specs.Fit.{box_of_triangle, boxes_in, least_box_of}
use Rattle.arrival_core.specs.declared.packets.TheConstants.{BATCH}
use Rattle.arrival_core.specs.declared.packets.Side.{Side}
use Rattle.arrival_core.specs.declared.packets.Side.TheVariants.{Left, Right}
use Rattle.arrival_core.specs.declared.packets.Up.{Up}
use Rattle.arrival_core.specs.Frames.{Frame, Below}
use Rattle.arrival_core.specs.Frames.Below.{leaf, inner}

-- what a machine is set to: keys, a box for each triangle, the live positions in order, and how many workers there are
pub record Setting : Type 0 where
  pub keys : List Key
  pub boxes : List Box3
  pub live : List ℕ
  pub workers : ℕ

-- the same, of its parts
abbrev pub setting : List Key → List Box3 → List ℕ → ℕ → Setting
setting keys boxes live workers = record { keys = keys; boxes = boxes; live = live; workers = workers }

-- how many batches of live positions there are, the last of which may be shorter
abbrev pub batch_count : List ℕ → ℕ
batch_count live = (length live + (BATCH - 1)) / BATCH

-- a row, or zeros where there is none
unfoldable pub row_or : Option Row → Row
row_or None = record { number = 0; first = 0; last = 0; split = 0 }
row_or (Some r) = r

-- the row of the inner node with that split, with its range
unfoldable pub row_of : List Key → ℕ → Row
row_of keys s = row_or (find (λ r. r.split == s) (rows 0 (shape_of keys)))

-- the leaf or the inner node that has the range [a, b]
unfoldable pub below : List Key → ℕ → ℕ → Below
below keys a b = if a == b then leaf a else inner (split keys a b)

-- the children of an inner node
unfoldable pub child_of : List Key → ℕ → Side → Below
child_of keys s Left = below keys (row_of keys s).first s
child_of keys s Right = below keys (suc s) (row_of keys s).last

-- a side of the node of a row, if there is one
unfoldable pub side_of_row : Side → Option Row → Option Up
side_of_row d None = None
side_of_row d (Some r) = Some (record { split = r.split; side = d })

-- the first of two that is there
unfoldable pub or_else : Option Up → Option Up → Option Up
or_else None u = u
or_else (Some v) u = Some v

-- what stands above the range [a, b]: on its left the node that begins with it, on its right the one that ends with it
unfoldable pub above : List Key → ℕ → ℕ → Option Up
above keys a b = or_else
    (side_of_row Left (find (λ r. r.first == a && r.split == b) (rows 0 (shape_of keys))))
    (side_of_row Right (find (λ r. suc r.split == a && r.last == b) (rows 0 (shape_of keys))))

-- a side, or one of the first node where there is none
unfoldable pub up_or : Option Up → Up
up_or None = record { split = 0; side = Left }
up_or (Some u) = u

-- the side above a leaf, which every position has where there are two keys
unfoldable pub above_leaf_of : List Key → ℕ → Up
above_leaf_of keys p = up_or (above keys p p)

-- some live position lies in [a, b]
unfoldable pub live_in : List ℕ → ℕ → ℕ → Bool
live_in live a b = list_any (λ q. nat_le a q && nat_le q b) live

-- the frame of a setting; the batches are the live positions, BATCH at a time
unfoldable pub frame_of : Setting → Frame
frame_of x = record {
  nodes = length x.keys - 1;
  workers = x.workers;
  batches = batch_count x.live;
  batch = λ j. take BATCH (drop (BATCH * j) x.live);
  child = child_of x.keys;
  above_leaf = above_leaf_of x.keys;
  above_node = λ s. above x.keys (row_of x.keys s).first (row_of x.keys s).last;
  leaf_packet = λ p. record { first = p; last = p; split = p; fit = box_of_triangle x.boxes (tri_at x.keys p) };
  node_packet = λ s. record {
    first = (row_of x.keys s).first;
    last = (row_of x.keys s).last;
    split = s;
    fit = least_box_of (boxes_in x.boxes x.keys (row_of x.keys s).first (row_of x.keys s).last);
  };
  live_leaf = λ p. live_in x.live p p;
  live_node = λ s. live_in x.live (row_of x.keys s).first (row_of x.keys s).last;
}

-- the same, of its parts
abbrev pub frame_over : List Key → List Box3 → List ℕ → ℕ → Frame
frame_over keys boxes live workers = frame_of (setting keys boxes live workers)
