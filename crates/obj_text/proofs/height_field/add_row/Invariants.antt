use Rattle.std.proofs.Common.{◌≡◌, ◌++◌}
use Rattle.std.specs.Prelude.{map}
use Rattle.std.specs.List.{range_with_len}
use Rattle.obj_text.specs.HeightFields.{vertex_at}
use Rattle.obj_text.proofs.height_field.add_row.Given as goal

abbrev pub invariant-loop-column : goal.invariant-loop-column
invariant-loop-column l =
    l.points.items ≡ l.initial.points.items ++ map (λ column. vertex_at column l.row) (range_with_len 0 l.column)
