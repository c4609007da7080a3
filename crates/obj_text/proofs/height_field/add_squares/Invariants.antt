use Rattle.std.proofs.Common.{◌≡◌, ◌++◌}
use Rattle.std.specs.List.{flat_map, range_with_len}
use Rattle.obj_text.specs.HeightFields.{square_faces}
use Rattle.obj_text.proofs.height_field.add_squares.Given as goal

abbrev pub invariant-loop-column : goal.invariant-loop-column
invariant-loop-column l =
    l.faces.items ≡ l.initial.faces.items
    ++ flat_map (λ column. square_faces l.side column l.row) (range_with_len 0 l.column)
