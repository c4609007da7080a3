-- What a world keeps beside its mesh and its points. No public clause cites this module.
use Rattle.std.specs.Prelude.{◌≡◌, ℕ, ◌<◌, ◌≤◌, Bool, true, List, [], All, length, slice_index_or, IfSome}
use Rattle.fixed_box.specs.Extent.{tri_box}
use Rattle.fixed_box.specs.declared.shapes.Point.{Point}
use Rattle.fixed_box.specs.declared.shapes.Box3.{Box3}
use Rattle.fixed_box.specs.World.{InWorld}
use Rattle.command_line.specs.declared.limits.TheConstants.{MOST_WORKERS}
use Rattle.obj_text.specs.Meshes.{MeshLists, IsFaceOf}
use Rattle.obj_text.specs.declared.face.Face.{Face}
use Rattle.obj_text.specs.declared.limits.TheConstants.{MOST_POINTS}
use Rattle.morton_key.specs.declared.keys.Key.{Key}
use Rattle.morton_key.specs.Order.{order_of}
use Rattle.radix_tree.specs.Table.{Contents, no_box}
use Rattle.radix_tree.specs.Fit.{IsFitted, table_of}
use Rattle.traversal.specs.Overlaps.{work_of}
use Rattle.walk_list.specs.Lists.{IsOver}
use Rattle.walk_list.specs.Leaves.{leaves_of}
use Rattle.world_index.specs.declared.index.Index.{Index}
use Rattle.world_index.specs.declared.last_work.LastWork.{LastWork}
use Rattle.world_index.specs.declared.last_work.LastWork.TheVariants.{Counted, Uncounted}
use Rattle.world_index.specs.Worlds.{tri_of, boxes_at}
use Rattle.world_index.specs.WaysUp.{IsWayUp}
use Rattle.world_index.specs.Fans.{face_at, AreFans}
use Rattle.world_index.specs.Live.{IsStill, ArePositions}

-- the box of the triangle at a position
abbrev pub box_at : List Point → List Face → ℕ → Box3
box_at points faces position = tri_box (tri_of points (face_at faces position))

-- the box at a position is that of its triangle
abbrev pub IsRight : List Point → List Face → List Box3 → ℕ → Type 0
IsRight points faces boxes position = slice_index_or boxes position no_box ≡ box_at points faces position

-- a work that is kept, over keys and boxes
abbrev pub work_left : LastWork → List Key → List Box3 → ℕ
work_left (Counted count) keys boxes = count
work_left (Uncounted around) keys boxes = work_of keys boxes around

-- the work of the last box
abbrev pub last_work : Index → ℕ
last_work index = work_left index.work index.tree.keys index.boxes.items

-- where it is not counted yet, it can be: the tree is fitted to the boxes
abbrev pub IsCountable : LastWork → Contents → List Box3 → Type 0
IsCountable (Counted count) tree boxes = Unit {0}
IsCountable (Uncounted around) tree boxes = IsFitted tree boxes

-- the boxes are those of these points, the tree is fitted to them, and the list is over them
pub record IsFittedTo (index : Index) (now : List Point) (faces : List Face) : Type 0 where
  pub each : index.boxes.items ≡ boxes_at now faces
  pub nodes : index.tree.nodes ≡ table_of (order_of (boxes_at index.built.value.items faces)) (boxes_at now faces)
  pub fits : IsFitted index.tree index.boxes.items
  pub list : IsOver index.list index.boxes.items
  pub leaves : index.list.leaves ≡ leaves_of index.tree.keys index.boxes.items

-- the tree is fitted to as many boxes as there are now, and the list is that of its triangles over the same: these are
-- right where no corner is marked as moved
pub record WereFitted (index : Index) (now : List Point) (faces : List Face) : Type 0 where
  pub before : List Box3
  pub count : length index.boxes.items ≡ length before
  pub tree : IsFitted index.tree before
  pub list : IsOver index.list before
  pub leaves : index.list.leaves ≡ leaves_of index.tree.keys before
  pub still : (t : ℕ) → t < length faces → IsStill index.marks.moved (face_at faces t) → IsRight now faces before t

-- a box and a key for each face, the box right where no corner is marked as moved; a tree over the order of the points
-- of the build and a list of as many triangles, both fitted where no vertex is marked; the chains of triangles at the
-- vertices, the positions of triangles and the way up, once needed; and the last work, which can be counted
pub record IsIndex (index : Index) (now : List Point) (faces : List Face) : Type 0 where
  pub boxes : length index.boxes.items ≡ length faces
  pub triangles : length index.tree.keys ≡ length faces
  pub keys : index.tree.keys ≡ order_of (boxes_at index.built.value.items faces)
  pub vertices : index.marks.vertices ≡ length now
  pub right : (t : ℕ) → t < length faces → IsStill index.marks.moved (face_at faces t) →
      IsRight now faces index.boxes.items t
  pub fitted : index.marks.moved ≡ [] → IsFittedTo index now faces
  pub were : WereFitted index now faces
  pub ways : IfSome index.ways (λ ways. IsWayUp ways index.tree.keys)
  pub fans : IfSome index.fans (λ fans. AreFans fans faces (length now))
  pub positions : IfSome index.positions (λ positions. ArePositions positions.items index.tree.keys)
  pub work : IsCountable index.work index.tree index.boxes.items

-- faces over points of the world, a count of workers, and an index over the faces, in which no vertex is marked where
-- none was moved since the world was opened, refitted or built anew
pub record IsKept (mesh : MeshLists) (now : List Point) (workers : ℕ) (kept : Index) (at_rest : Bool) : Type 0 where
  pub in_world : All InWorld now
  pub few : length now ≤ MOST_POINTS
  pub named : All (IsFaceOf (length now)) mesh.faces
  pub some_workers : 1 ≤ workers
  pub few_workers : workers ≤ MOST_WORKERS
  pub index : IsIndex kept now mesh.faces
  pub settled : at_rest ≡ true → kept.marks.moved ≡ []
