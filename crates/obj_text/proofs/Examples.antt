-- Worked texts and a worked height field, tried on the definitions alone.
use Rattle.std.proofs.Common.{◌≡◌, [], ◌∷◌, ◌++◌, refl, Ok, Err, pos, negsuc}
use Rattle.std.specs.Prelude.{codes, map}
use Rattle.obj_text.specs.Texts.{mesh_of}
use Rattle.obj_text.specs.HeightFields.{height_at, vertex_at, row_points, field_points, square_faces, row_faces, field_faces}
use Rattle.obj_text.specs.declared.fault.Why.TheVariants.{NoSuchVertex, BadReference, TooFewWords}

-- a triangle at 64 grid steps to the unit, in a named group; a line that goes on, a comment and a blank line
four_lines
    : mesh_of 64
    (codes "f 1 -1 3" ++ 10 ∷ codes "v 0 0 0 # corner" ++ 10 ∷ 13 ∷ 10 ∷ codes "g b" ++ 10 ∷ codes "v 4 \\" ++ 13 ∷ 10
    ∷ codes "0 0" ++ 10 ∷ codes "v 0 -.5 0")
    ≡ Err (record { line = 1; why = NoSuchVertex })
four_lines = refl

joined_and_grouped
    : mesh_of 64
    (codes "v 0 0 0 # corner" ++ 10 ∷ 13 ∷ 10 ∷ codes "g b" ++ 10 ∷ codes "f 1 -1 3 2" ++ 10 ∷ codes "v 4 \\" ++ 13 ∷ 10
    ∷ codes "0 0" ++ 10 ∷ codes "o" ++ 10 ∷ codes "f 1/ 2//7 3" ++ 10 ∷ codes "v 0 -.5 0")
    ≡ Ok (record {
      points =
          record { x = pos 0; y = pos 0; z = pos 0 }
          ∷ record { x = pos 256; y = pos 0; z = pos 0 }
          ∷ record { x = pos 0; y = negsuc 31; z = pos 0 }
          ∷ [];
      faces = record { a = 0; b = 0; c = 2 } ∷ record { a = 0; b = 2; c = 1 } ∷ record { a = 0; b = 1; c = 2 } ∷ [];
      names = codes "b" ∷ codes "default" ∷ [];
      group_of = 0 ∷ 0 ∷ 1 ∷ [];
    })
joined_and_grouped = refl

-- the first fault of the first faulty line, which has the number of its first part
first_fault
    : mesh_of 1 (codes "v 0 0 0" ++ 10 ∷ codes "f 1 \\" ++ 10 ∷ codes "x 9" ++ 10 ∷ codes "v 1")
    ≡ Err (record { line = 2; why = BadReference })
first_fault = refl

-- a comment ends a line, whatever its last byte
comment_ends_the_line : mesh_of 1 (codes "v 0 0 #\\" ++ 10 ∷ codes "0") ≡ Err (record { line = 1; why = TooFewWords })
comment_ends_the_line = refl

-- the heights and the triangles of two squares a side, and a height that passes its limit
heights_of_two : map (λ point. point.z) (field_points 2) ≡ map pos (0 ∷ 73 ∷ 146 ∷ 151 ∷ 253 ∷ 355 ∷ 302 ∷ 433 ∷ 564 ∷ [])
unfolding field_points row_points vertex_at
heights_of_two = refl

-- their last corner
last_point_of_two : vertex_at 2 2 ≡ record { x = negsuc 65023; y = negsuc 65023; z = pos 564 }
unfolding vertex_at
last_point_of_two = refl

faces_of_two
    : map (λ face. face.a ∷ face.b ∷ face.c ∷ []) (field_faces 2)
    ≡ (0 ∷ 1 ∷ 4 ∷ []) ∷ (0 ∷ 4 ∷ 3 ∷ []) ∷ (1 ∷ 2 ∷ 5 ∷ []) ∷ (1 ∷ 5 ∷ 4 ∷ [])
    ∷ (3 ∷ 4 ∷ 7 ∷ []) ∷ (3 ∷ 7 ∷ 6 ∷ []) ∷ (4 ∷ 5 ∷ 8 ∷ []) ∷ (4 ∷ 8 ∷ 7 ∷ []) ∷ []
unfolding field_faces row_faces square_faces
faces_of_two = refl

-- the height past its limit
height_past_the_limit : height_at 8 8 ≡ 576
height_past_the_limit = refl
