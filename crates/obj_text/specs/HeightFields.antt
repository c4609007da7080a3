-- The mesh of the large workload: a height field of so many squares along each side, two triangles to a square.
use Rattle.std.specs.Prelude.{ℕ, ℤ, pos, ◌-ℤ◌, ◌+◌, ◌*◌, ◌%◌, List, [], ◌∷◌, map, length, replicate, codes}
use Rattle.std.specs.List.{flat_map, range_with_len}
use Rattle.fixed_box.specs.declared.shapes.Point.{Point}
use Rattle.obj_text.specs.Meshes.{MeshLists}
use Rattle.obj_text.specs.declared.face.Face.{Face}
use Rattle.obj_text.specs.declared.height_field.TheConstants.{FIELD_SPACING, FIELD_CORNER, HEIGHTS}

-- the coordinate of a column along x, or of a row along y
abbrev pub along : ℕ → ℤ
along number = pos (FIELD_SPACING * number) -ℤ FIELD_CORNER

-- the height of the vertex of a column and a row
abbrev pub height_at : ℕ → ℕ → ℕ
height_at column row = (73 * column + 151 * row + 29 * column * row) % HEIGHTS

-- the vertex of a column and a row
unfoldable pub vertex_at : ℕ → ℕ → Point
vertex_at column row = record { x = along column; y = along row; z = pos (height_at column row) }

-- the place of that vertex among all, which stand row after row
abbrev pub place_at : ℕ → ℕ → ℕ → ℕ
place_at side column row = row * (side + 1) + column

-- the vertices of a row, and of all rows; there is one more of them along a side than squares
unfoldable pub row_points : ℕ → ℕ → List Point
row_points side row = map (λ column. vertex_at column row) (range_with_len 0 (side + 1))

unfoldable pub field_points : ℕ → List Point
field_points side = flat_map (row_points side) (range_with_len 0 (side + 1))

-- the two triangles of a square, which its diagonal from the least corner parts
unfoldable pub square_faces : ℕ → ℕ → ℕ → List Face
square_faces side column row =
    record {
      a = place_at side column row;
      b = place_at side (column + 1) row;
      c = place_at side (column + 1) (row + 1);
    }
    ∷ record {
      a = place_at side column row;
      b = place_at side (column + 1) (row + 1);
      c = place_at side column (row + 1);
    }
    ∷ []

-- the triangles of a row of squares, and of all rows
unfoldable pub row_faces : ℕ → ℕ → List Face
row_faces side row = flat_map (λ column. square_faces side column row) (range_with_len 0 side)

unfoldable pub field_faces : ℕ → List Face
field_faces side = flat_map (row_faces side) (range_with_len 0 side)

-- the mesh, in one group
unfoldable pub field_mesh : ℕ → MeshLists
field_mesh side = record {
  points = field_points side;
  faces = field_faces side;
  names = codes "grid" ∷ [];
  group_of = replicate (length (field_faces side)) 0;
}
