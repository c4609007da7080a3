use Rattle.std.proofs.Common.{rules, arith}
use Rattle.std.proofs.lemmas.List.FromFn.{map-range_with_len_more}
use Rattle.std.proofs.lemmas.Grind.{common_steps}
use Rattle.obj_text.specs.HeightFields.{vertex_at, row_points}
use Rattle.obj_text.proofs.height_field.add_row.Goals as goal

pub loop-column-preserved : goal.loop-column-preserved
loop-column-preserved c =
    let column = c.loop-column.column in
    let more = map-range_with_len_more (λ column. vertex_at column c.args.row) 0 column column (omega arith) in
    grind (arith, common_steps, more, c.vertex_at.ensures)

pub returns : goal.returns
unfolding row_points
returns c = search rules
