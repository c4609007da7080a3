use Rattle.std.proofs.Common.{◌≡◌}
use Rattle.std.specs.List.{flat_map, range_with_len}
use Rattle.obj_text.specs.HeightFields.{row_faces}
use Rattle.obj_text.proofs.height_field.field_faces.Given as goal

abbrev pub invariant-loop-row : goal.invariant-loop-row
invariant-loop-row l = l.faces.items ≡ flat_map (row_faces l.side) (range_with_len 0 l.row)
