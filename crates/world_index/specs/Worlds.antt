-- The world: what a state is, what an ask is answered in it, and the state after it.
use Rattle.std.specs.Prelude.{ℕ, ◌+◌, ◌-◌, Bool, true, false, not, ◌&&◌, ◌||◌, List, [], ◌∷◌, map, length, count_by, ◌==◌, nat_lt, nat_le, slice_index_or, slice_set, if◌then◌else◌, pos, Option, None, Some, Result, Ok, Err}
use Rattle.fixed_box.specs.Extent.{tri_box}
use Rattle.fixed_box.specs.declared.shapes.Point.{Point}
use Rattle.fixed_box.specs.declared.shapes.Box3.{Box3}
use Rattle.fixed_box.specs.declared.shapes.Tri.{Tri}
use Rattle.obj_text.specs.Meshes.{MeshLists}
use Rattle.obj_text.specs.declared.face.Face.{Face}
use Rattle.morton_key.specs.declared.keys.Key.{Key}
use Rattle.morton_key.specs.declared.keys.TheConstants.{LEVELS}
use Rattle.morton_key.specs.Order.{order_of}
use Rattle.radix_tree.specs.declared.nodes.Node.{Node}
use Rattle.radix_tree.specs.Table.{node_at}
use Rattle.radix_tree.specs.Shape.{shape_of, height_of}
use Rattle.radix_tree.specs.Fit.{table_of}
use Rattle.octree_cells.specs.CellsOf.{cells_of, cell_count_of}
use Rattle.traversal.specs.Overlaps.{overlaps_of, work_of}
use Rattle.traversal.specs.NearestOf.{NearestHit, nearest_of}
use Rattle.query_script.specs.declared.asks.Ask.{Ask}
use Rattle.query_script.specs.declared.asks.Ask.TheVariants as ask
use Rattle.query_script.specs.declared.faults.LineFault.{LineFault}
use Rattle.query_script.specs.declared.faults.LineFault.TheVariants.{NoSuchVertex, NoSuchNode, NoSuchLevel}
use Rattle.query_script.specs.declared.groups.GroupCount.{GroupCount}
use Rattle.query_script.specs.declared.replies.Reply.{Reply}
use Rattle.query_script.specs.declared.replies.Reply.TheVariants.{Nothing, Overlaps, Hit, Miss, Moved, Refitted, Rebuilt, NodeIs, CellsAre, GroupsAre, StatIs, WorkIs, Refused}

-- a state of the world: the mesh that opened it, the points now, those of the last build, the last box query's work,
-- and whether no vertex was moved since it was opened, refitted or built anew
pub record WorldState : Type 0 where
  pub mesh : MeshLists
  pub now : List Point
  pub built : List Point
  pub work : ℕ
  pub settled : Bool

-- the world that a mesh opens
abbrev pub world_of : MeshLists → WorldState
world_of mesh = record { mesh = mesh; now = mesh.points; built = mesh.points; work = 0; settled = true }

-- ---- the triangles and their tree

-- the point at a position
abbrev pub point_at : List Point → ℕ → Point
point_at points position = slice_index_or points position (record { x = pos 0; y = pos 0; z = pos 0 })

-- the triangle of a face over these points
abbrev pub tri_of : List Point → Face → Tri
tri_of points face = record { a = point_at points face.a; b = point_at points face.b; c = point_at points face.c }

-- the triangles of these faces, in the order of their numbers
abbrev pub tris_at : List Point → List Face → List Tri
tris_at points faces = map (tri_of points) faces

-- and their boxes
abbrev pub boxes_at : List Point → List Face → List Box3
boxes_at points faces = map tri_box (tris_at points faces)

-- the world's triangles
abbrev pub tris_now : WorldState → List Tri
tris_now world = tris_at world.now world.mesh.faces

-- and their boxes
abbrev pub boxes_now : WorldState → List Box3
boxes_now world = boxes_at world.now world.mesh.faces

-- the keys of its tree, which are those of the last build
abbrev pub built_order : WorldState → List Key
built_order world = order_of (boxes_at world.built world.mesh.faces)

-- the inner nodes of its tree, by number
abbrev pub table : WorldState → List Node
table world = table_of (built_order world) (boxes_now world)

-- ---- the groups

-- how many of the triangles are in the group at a place
abbrev pub count_in : List ℕ → ℕ → ℕ
count_in group_of place = count_by (λ p. p == place) group_of

-- the groups from a place on, each with its count of triangles
abbrev pub groups_from : ℕ → List (List ℕ) → List ℕ → List GroupCount
groups_from place [] group_of = []
groups_from place (name ∷ names) group_of = record { name = name; count = count_in group_of place } ∷ groups_from (place + 1) names group_of

-- the names of the mesh's groups in their order, each with its count of triangles
abbrev pub groups_of : MeshLists → List GroupCount
groups_of mesh = groups_from 0 mesh.names mesh.group_of

-- ---- asks

-- the number is a vertex's, of so many
abbrev pub is_vertex : ℕ → ℕ → Bool
is_vertex count vertex = nat_lt 0 vertex && nat_le vertex count

-- word that the vertex was moved, or that there is none of that number
abbrev pub move_reply : ℕ → ℕ → Reply
move_reply count vertex = if is_vertex count vertex then Moved vertex else Refused NoSuchVertex

-- the world with the vertex of that number there, if there is one
abbrev pub moved : WorldState → ℕ → Point → WorldState
moved world vertex to =
    if is_vertex (length world.now) vertex
    then record world { now = slice_set world.now (vertex - 1) to; settled = false }
    else world

-- the node of that number, or that there is none
abbrev pub node_reply : List Node → ℕ → Reply
node_reply nodes number = if nat_lt number (length nodes) then NodeIs number (node_at nodes number) else Refused NoSuchNode

-- the octree's cells of that level, or that there is no such level
abbrev pub cells_reply : List Key → ℕ → Reply
cells_reply keys level = if nat_le level LEVELS then CellsAre level (cells_of keys level) else Refused NoSuchLevel

-- the counts of the triangles, of the inner nodes, which are one fewer, and of the cells, and the height of the tree
abbrev pub stat_reply : List Key → Reply
stat_reply keys = StatIs (length keys) (length keys - 1) (height_of (shape_of keys)) (cell_count_of keys)

-- the nearest hit, or that there is none
abbrev pub hit_reply : Option NearestHit → Reply
hit_reply None = Miss
hit_reply (Some hit) = Hit hit.number hit.at

-- what an ask is answered
abbrev pub reply_to : WorldState → Ask → Reply
reply_to world ask.Nothing = Nothing
reply_to world (ask.Overlap around) = Overlaps (overlaps_of (boxes_now world) around)
reply_to world (ask.Seg p q) = hit_reply (nearest_of (tris_now world) p q)
reply_to world (ask.Move vertex to) = move_reply (length world.now) vertex
reply_to world ask.Refit = Refitted
reply_to world ask.Rebuild = Rebuilt
reply_to world (ask.NodeOf number) = node_reply (table world) number
reply_to world (ask.Cells level) = cells_reply (built_order world) level
reply_to world ask.Groups = GroupsAre (groups_of world.mesh)
reply_to world ask.Stat = stat_reply (built_order world)
reply_to world ask.Work = WorkIs world.work

-- the state after an ask: a box query leaves its work behind, a moved vertex its place, and a build its points
abbrev pub state_after : WorldState → Ask → WorldState
state_after world ask.Nothing = world
state_after world (ask.Overlap around) = record world { work = work_of (built_order world) (boxes_now world) around }
state_after world (ask.Seg p q) = world
state_after world (ask.Move vertex to) = moved world vertex to
state_after world ask.Refit = record world { settled = true }
state_after world ask.Rebuild = record world { built = world.now; settled = true }
state_after world (ask.NodeOf number) = world
state_after world (ask.Cells level) = world
state_after world ask.Groups = world
state_after world ask.Stat = world
state_after world ask.Work = world

-- the ask takes no memory
abbrev pub is_free : WorldState → Ask → Bool
is_free world ask.Nothing = true
is_free world (ask.Overlap around) = false
is_free world (ask.Seg p q) = world.settled
is_free world (ask.Move vertex to) = true
is_free world ask.Refit = false
is_free world ask.Rebuild = false
is_free world (ask.NodeOf number) = world.settled || not (nat_lt number (length (table world)))
is_free world (ask.Cells level) = not (nat_le level LEVELS)
is_free world ask.Groups = false
is_free world ask.Stat = true
is_free world ask.Work = true

-- ---- lines

-- what a line is answered: a refusal, or the reply to what it asks
abbrev pub reply_of : WorldState → Result Ask LineFault → Reply
reply_of world (Err fault) = Refused fault
reply_of world (Ok ask) = reply_to world ask

-- the state after a line; a refused line changes nothing
abbrev pub after : WorldState → Result Ask LineFault → WorldState
after world (Err fault) = world
after world (Ok ask) = state_after world ask
