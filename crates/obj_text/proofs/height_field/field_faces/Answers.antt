use Rattle.std.proofs.Common.{rules}
use Rattle.obj_text.specs.HeightFields.{row_faces, field_faces}
use Rattle.obj_text.proofs.HeightFields.{rows_more}
use Rattle.obj_text.proofs.height_field.field_faces.Goals as goal

pub loop-row-preserved : goal.loop-row-preserved
loop-row-preserved c =
    let more = rows_more (row_faces c.args.side) c.loop-row.row in
    search (rules, c.in_ok-add_squares.ensures, more)

pub returns : goal.returns
unfolding field_faces
returns c = search rules
