-- The large workload of two squares along each side, tried on its definitions.
use Rattle.std.proofs.Common.{◌≡◌, ℕ, List, [], ◌∷◌, map, refl, pos}
use Rattle.std.specs.Prelude.{◌-ℤ◌}
use Rattle.std.specs.List.{flat_map, range_with_len}
use Rattle.fixed_box.specs.declared.shapes.Point.{Point}
use Rattle.fixed_box.specs.Extent.{point_box, union_of, corner_box, tri_box, crosses, boxes_meet}
use Rattle.obj_text.specs.HeightFields.{vertex_at, row_points, field_points, square_faces, row_faces, field_faces, field_mesh}
use Rattle.morton_key.specs.Bits.{differing}
use Rattle.morton_key.specs.Codes.{interleaved, raised, middle, code_of}
use Rattle.morton_key.specs.Keys.{key_at, code_at}
use Rattle.morton_key.specs.Order.{keys_from, is_before, put_key, sorted_keys, order_of}
use Rattle.radix_tree.specs.Split.{last_clear, split}
use Rattle.radix_tree.specs.Shape.{height_of, grown, shape_in, shape_of, rows, row_at}
use Rattle.radix_tree.specs.Table.{no_box, no_node, node_at}
use Rattle.radix_tree.specs.Fit.{box_of_triangle, boxes_in, joined, least_box_of, node_of_row, nodes_from, table_of}
use Rattle.traversal.specs.Overlaps.{overlaps_from, overlaps_of, is_at_or_above, is_reached, count_reached, work_of}
use Rattle.query_script.specs.declared.asks.Ask.{Ask}
use Rattle.query_script.specs.declared.asks.Ask.TheVariants.{Overlap, Work, Rebuild, Stat}
use Rattle.query_script.specs.declared.replies.Reply.TheVariants.{StatIs}
use Rattle.octree_cells.specs.Cells.{prefix_of, prefix_at}
use Rattle.octree_cells.specs.CellsOf.{keys_with, last_with, is_cell_at, cell_at, cells_from, cells_of, cells_to, cell_count_of}
use Rattle.world_index.specs.Worlds.{WorldState, world_of}
use Rattle.world_engine.specs.Workload.{over_place, query_box, move_ask, move_asks}
use Rattle.world_engine.specs.Sums.{sums_of}
use Rattle.world_engine.specs.Reports.{replies_to, world_after}

-- a place, counted from the corner of the field
abbrev at : ℕ → ℕ → Point
at x y = record { x = pos x -ℤ pos 65536; y = pos y -ℤ pos 65536; z = pos 0 }

places
    : map (λ query. over_place 2 query (pos 0)) (range_with_len 0 8)
    ≡ at 17 0 ∷ at 148 148 ∷ at 29 410 ∷ at 172 274 ∷ at 65 252 ∷ at 220 344 ∷ at 125 38 ∷ at 292 358 ∷ []
unfolding over_place
places = refl

-- the boxes of a pass, and their works
abbrev boxes : List Ask
boxes = flat_map (λ query. Overlap (query_box 2 query) ∷ Work ∷ []) (range_with_len 0 8)

-- the world of the field of two squares a side
abbrev opened : WorldState
opened = world_of (field_mesh 2)

boxes_met_first
    : sums_of (replies_to opened boxes) ≡ record { hits = 0; misses = 0; numbers = 0; overlaps = 46; work = 100 }
unfolding query_box over_place field_mesh field_points row_points vertex_at field_faces row_faces square_faces
    overlaps_of overlaps_from boxes_meet crosses tri_box corner_box point_box union_of
    order_of sorted_keys put_key is_before keys_from code_of interleaved middle raised
    work_of count_reached is_reached is_at_or_above table_of nodes_from node_of_row least_box_of joined boxes_in
    box_of_triangle no_box no_node node_at row_at rows shape_of shape_in grown split last_clear differing code_at key_at
boxes_met_first = refl

boxes_met_moved
    : sums_of (replies_to (world_after opened (move_asks 2)) boxes)
    ≡ record { hits = 0; misses = 0; numbers = 0; overlaps = 35; work = 100 }
unfolding move_asks move_ask query_box over_place field_mesh field_points row_points vertex_at field_faces row_faces
    square_faces overlaps_of overlaps_from boxes_meet crosses tri_box corner_box point_box union_of
    order_of sorted_keys put_key is_before keys_from code_of interleaved middle raised
    work_of count_reached is_reached is_at_or_above table_of nodes_from node_of_row least_box_of joined boxes_in
    box_of_triangle no_box no_node node_at row_at rows shape_of shape_in grown split last_clear differing code_at key_at
boxes_met_moved = refl

-- the counts before the first pass
counted_first : replies_to opened (Stat ∷ []) ≡ StatIs 8 7 3 46 ∷ []
unfolding field_mesh field_points row_points vertex_at field_faces row_faces square_faces tri_box corner_box
    point_box union_of
    order_of sorted_keys put_key is_before keys_from code_of interleaved middle raised height_of shape_of shape_in grown
    split last_clear differing code_at key_at
    cell_count_of cells_to cells_of cells_from cell_at is_cell_at last_with keys_with prefix_at prefix_of
counted_first = refl

-- and behind the moves and the build
counted_last
    : replies_to (world_after (world_after opened (move_asks 2)) (Rebuild ∷ [])) (Stat ∷ []) ≡ StatIs 8 7 3 22 ∷ []
unfolding move_asks move_ask field_mesh field_points row_points vertex_at field_faces row_faces square_faces tri_box
    corner_box point_box union_of order_of sorted_keys put_key is_before keys_from code_of interleaved middle raised
    height_of shape_of shape_in grown split last_clear differing code_at key_at
    cell_count_of cells_to cells_of cells_from cell_at is_cell_at last_with keys_with prefix_at prefix_of
counted_last = refl
