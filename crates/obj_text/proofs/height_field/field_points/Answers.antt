use Rattle.std.proofs.Common.{rules}
use Rattle.obj_text.specs.HeightFields.{row_points, field_points}
use Rattle.obj_text.proofs.HeightFields.{rows_more}
use Rattle.obj_text.proofs.height_field.field_points.Goals as goal

pub loop-row-preserved : goal.loop-row-preserved
loop-row-preserved c =
    let more = rows_more (row_points c.args.side) c.loop-row.row in
    search (rules, c.in_ok-add_row.ensures, more)

pub returns : goal.returns
unfolding field_points
returns c = search rules
