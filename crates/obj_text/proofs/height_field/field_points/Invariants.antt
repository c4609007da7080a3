use Rattle.std.proofs.Common.{◌≡◌}
use Rattle.std.specs.List.{flat_map, range_with_len}
use Rattle.obj_text.specs.HeightFields.{row_points}
use Rattle.obj_text.proofs.height_field.field_points.Given as goal

abbrev pub invariant-loop-row : goal.invariant-loop-row
invariant-loop-row l = l.points.items ≡ flat_map (row_points l.side) (range_with_len 0 l.row)
