-- The height field of so many squares along each side is a mesh: within its limits, in the world, with faces over its
-- own vertices.
use Rattle.std.proofs.Common.{◌≡◌, ◌≤◌, ◌<◌, ◌+◌, ◌*◌, ℕ, List, [], ◌∷◌, length, replicate, refl, sym, subst, ap, ◌∙◌, arith}
use Rattle.std.specs.Prelude.{codes, nat_lt, true, if◌then◌else◌}
use Rattle.std.specs.Str.{bytes_eq}
use Rattle.std.specs.List.{All, range_with_len, position_or_len}
use Rattle.std.proofs.lemmas.Int.{ints}
use Rattle.std.proofs.lemmas.Nat.{mul-le}
use Rattle.std.proofs.lemmas.List.{length-replicate}
use Rattle.std.proofs.lemmas.List.FromFn.{length-map-range_with_len}
use Rattle.std.proofs.lemmas.List.Elements.{All-nil, All-cons, All-map, All-replicate}
use Rattle.fixed_box.specs.World.{InWorld, IsCoordinate}
use Rattle.fixed_box.specs.declared.shapes.Point.{Point}
use Rattle.obj_text.specs.Meshes.{IsMesh, IsFaceOf, IsPlaceIn}
use Rattle.obj_text.specs.Groups.{with_name}
use Rattle.obj_text.specs.Steps.{groups_with}
use Rattle.obj_text.specs.HeightFields.{along, vertex_at, place_at, row_points, field_points, square_faces, row_faces, field_faces, field_mesh}
use Rattle.obj_text.specs.declared.face.Face.{Face}
use Rattle.obj_text.specs.declared.limits.TheConstants.{MOST_GRID, MOST_FACES, MOST_POINTS}
use Rattle.obj_text.proofs.HeightFields.{length-rows, All-rows, All-row}

-- the vertices of a side are one more than its squares, and there is a row for each
pub length-field_points : (side : ℕ) → length (field_points side) ≡ (side + 1) * (side + 1)
unfolding field_points row_points
length-field_points side =
    length-rows (row_points side) (side + 1)
    (λ row. length-map-range_with_len (λ column. vertex_at column row) 0 (side + 1)) (side + 1) 0

-- a row has two triangles to each square
length-row_faces : (side row : ℕ) → length (row_faces side row) ≡ side * 2
unfolding row_faces square_faces
length-row_faces side row =
    length-rows (λ column. square_faces side column row) 2 (λ column. refl) side 0

-- two triangles to a square
pub length-field_faces : (side : ℕ) → length (field_faces side) ≡ side * (side * 2)
unfolding field_faces
length-field_faces side = length-rows (row_faces side) (side * 2) (length-row_faces side) side 0

-- a field has no more points than a mesh
pub few_points : (side : ℕ) → side ≤ MOST_GRID → length (field_points side) ≤ MOST_POINTS
few_points side p =
    omega (arith, length-field_points side, mul-le (side + 1) (side + 1) 513 513 (omega arith) (omega arith))

-- nor more triangles
pub few_faces : (side : ℕ) → side ≤ MOST_GRID → length (field_faces side) ≤ MOST_FACES
few_faces side p =
    omega (arith, length-field_faces side, mul-le side (side * 2) 512 1024 (omega arith) (omega arith))

-- a column or a row stands in the world
along_in_world : (number : ℕ) → number ≤ MOST_GRID → IsCoordinate (along number)
along_in_world number p = record { low = omega (arith, ints); high = omega (arith, ints) }

-- so does a corner
vertex_in_world : (column row : ℕ) → column ≤ MOST_GRID → row ≤ MOST_GRID → InWorld (vertex_at column row)
unfolding vertex_at
vertex_in_world column row p q = record {
  x = along_in_world column p;
  y = along_in_world row q;
  z = record { low = omega (arith, ints); high = omega (arith, ints) };
}

-- so do all corners
points_in_world : (side : ℕ) → side ≤ MOST_GRID → All InWorld (field_points side)
unfolding field_points row_points
points_in_world side p =
    All-rows InWorld (row_points side) (side + 1) 0
    (λ row low high. All-map InWorld (λ column. vertex_at column row) (range_with_len 0 (side + 1))
    (All-row (λ column. InWorld (vertex_at column row)) (side + 1) 0
    (λ column right. vertex_in_world column row (omega arith) (omega arith))))

-- a vertex that is one of them has a place among them
place_within : (side column row : ℕ) → column ≤ side → row ≤ side
    → place_at side column row < (side + 1) * (side + 1)
place_within side column row p q =
    let last : (row + 1) * (side + 1) ≤ (side + 1) * (side + 1) =
    mul-le (row + 1) (side + 1) (side + 1) (side + 1) (omega arith) (omega arith) in
    omega (arith, last)

-- the triangles of a square name corners of the field
square_named : (side column row : ℕ) → column < side → row < side
    → All (IsFaceOf ((side + 1) * (side + 1))) (square_faces side column row)
unfolding square_faces
square_named side column row p q =
    let near = place_within side column row (omega arith) (omega arith) in
    let beside = place_within side (column + 1) row (omega arith) (omega arith) in
    let across = place_within side (column + 1) (row + 1) (omega arith) (omega arith) in
    let above = place_within side column (row + 1) (omega arith) (omega arith) in
    let P = IsFaceOf ((side + 1) * (side + 1)) in
    let lower : Face = record {
      a = place_at side column row;
      b = place_at side (column + 1) row;
      c = place_at side (column + 1) (row + 1);
    } in
    let upper : Face = record {
      a = place_at side column row;
      b = place_at side (column + 1) (row + 1);
      c = place_at side column (row + 1);
    } in
    All-cons P lower (upper ∷ []) (record { a = near; b = beside; c = across })
    (All-cons P upper [] (record { a = near; b = across; c = above }) (All-nil P))

-- so do all triangles
faces_named : (side : ℕ) → All (IsFaceOf ((side + 1) * (side + 1))) (field_faces side)
unfolding field_faces row_faces
faces_named side =
    let P = IsFaceOf ((side + 1) * (side + 1)) in
    All-rows P (row_faces side) side 0
    (λ row low high. All-rows P (λ column. square_faces side column row) side 0
    (λ column left right. square_named side column row (omega arith) (omega arith)))

-- the height field is a mesh
pub is_mesh : (side : ℕ) → side ≤ MOST_GRID → IsMesh (field_mesh side)
unfolding field_mesh
is_mesh side p = record {
  in_world = points_in_world side p;
  named = subst (λ k. All (IsFaceOf k) (field_faces side)) (sym (length-field_points side)) (faces_named side);
  grouped = All-replicate (IsPlaceIn 1) (length (field_faces side)) 0 (omega arith);
  one_group = length-replicate (length (field_faces side)) 0;
  few_points = few_points side p;
  few_faces = few_faces side p;
}

-- a square has a triangle
some_faces : (side : ℕ) → 1 ≤ side → 1 ≤ length (field_faces side)
some_faces side p = omega (arith, length-field_faces side, mul-le 1 2 side (side * 2) p (omega arith))

-- its vertices and triangles, with all these put into the group, are the mesh
pub is_field_mesh
    : (side : ℕ) (points : List Point) (faces : List Face) (names : List (List ℕ)) (group_of : List ℕ)
    → 1 ≤ side → points ≡ field_points side → faces ≡ field_faces side
    → names ≡ groups_with [] (codes "grid") (length faces)
    → group_of ≡ replicate (length faces) (position_or_len (bytes_eq (codes "grid")) names)
    → record { points = points; faces = faces; names = names; group_of = group_of } ≡ field_mesh side
unfolding field_mesh
is_field_mesh side points faces names group_of p points_are faces_are names_are places_are =
    let grid = codes "grid" in
    let length_is = ap length faces_are in
    let some : nat_lt 0 (length faces) ≡ true = grind (arith, length_is, some_faces side p) in
    let one : names ≡ grid ∷ [] = names_are ∙ ap (λ b. if b then with_name [] grid else []) some in
    let first : position_or_len (bytes_eq grid) names ≡ 0 = ap (position_or_len (bytes_eq grid)) one in
    let grouped : group_of ≡ replicate (length (field_faces side)) 0 = cc in
    cc
