-- What the large workload asks of its world: eight queries in one pass, and eight moves.
use Rattle.std.specs.Prelude.{ℕ, ℤ, pos, ◌+ℤ◌, ◌-ℤ◌, ◌+◌, ◌*◌, ◌%◌, List, [], ◌∷◌, map}
use Rattle.std.specs.List.{flat_map, range_with_len}
use Rattle.fixed_box.specs.Extent.{corner_box}
use Rattle.fixed_box.specs.declared.shapes.Point.{Point}
use Rattle.fixed_box.specs.declared.shapes.Box3.{Box3}
use Rattle.obj_text.specs.HeightFields.{field_points}
use Rattle.obj_text.specs.declared.height_field.TheConstants.{FIELD_SPACING, FIELD_CORNER}
use Rattle.query_script.specs.declared.asks.Ask.{Ask}
use Rattle.query_script.specs.declared.asks.Ask.TheVariants.{Overlap, Seg, Move, Work}
use Rattle.world_engine.specs.declared.workload.TheConstants.{QUERIES, SEGMENT_TOP, SEGMENT_FOOT, BOX_REACH, BOX_TOP, MOVE_TOP, MOVE_STEP}
use Rattle.world_index.specs.Worlds.{point_at}

-- ---- one pass

-- a number, brought into the width of the field, as a coordinate along it
abbrev pub spread : ℕ → ℕ → ℤ
spread side number = pos (number % (FIELD_SPACING * side)) -ℤ FIELD_CORNER

-- the point at a height over the place of a query
unfoldable pub over_place : ℕ → ℕ → ℤ → Point
over_place side query height = record {
  x = spread side (131 * query * query + 17);
  y = spread side (57 * query * query + 91 * query);
  z = height;
}

-- the highest corner of the box whose lowest one is at a place
abbrev pub far_corner : Point → Point
far_corner near = record { x = near.x +ℤ BOX_REACH; y = near.y +ℤ BOX_REACH; z = BOX_TOP }

-- the box of a query, whose lowest corner is at its place
unfoldable pub query_box : ℕ → ℕ → Box3
query_box side query = corner_box (over_place side query (pos 0)) (far_corner (over_place side query (pos 0)))

-- a query asks for the first triangle below its place, for the triangles whose boxes meet its box, and for that box's work
unfoldable pub query_asks : ℕ → ℕ → List Ask
query_asks side query =
    Seg (over_place side query SEGMENT_TOP) (over_place side query SEGMENT_FOOT)
    ∷ Overlap (query_box side query)
    ∷ Work
    ∷ []

-- a pass asks each query
unfoldable pub pass_asks : ℕ → List Ask
pass_asks side = flat_map (query_asks side) (range_with_len 0 QUERIES)

-- ---- the moves

-- the place of the vertex that a move takes
abbrev pub moved_place : ℕ → ℕ → ℕ
moved_place side move = (5 * move) % ((side + 1) * (side + 1))

-- where it goes: its column and row stay
abbrev pub raised : Point → ℕ → Point
raised p move = record { x = p.x; y = p.y; z = MOVE_TOP -ℤ pos (MOVE_STEP * move) }

-- a move asks that a vertex is raised; vertices are numbered from 1
unfoldable pub move_ask : List Point → ℕ → ℕ → Ask
move_ask points side move =
    Move (moved_place side move + 1) (raised (point_at points (moved_place side move)) move)

-- the moves of the vertices of a field
unfoldable pub move_asks : ℕ → List Ask
move_asks side = map (move_ask (field_points side) side) (range_with_len 0 QUERIES)
