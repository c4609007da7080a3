use Rattle.std.proofs.Common.{rules, arith}
use Rattle.std.proofs.lemmas.Grind.{common_steps}
use Rattle.obj_text.specs.HeightFields.{square_faces, row_faces}
use Rattle.obj_text.proofs.HeightFields.{rows_more}
use Rattle.obj_text.proofs.height_field.add_squares.Goals as goal

pub loop-column-preserved : goal.loop-column-preserved
loop-column-preserved c =
    let more = rows_more (λ column. square_faces c.args.side column c.args.row) c.loop-column.column in
    grind (arith, common_steps, more)

pub returns : goal.returns
unfolding row_faces
returns c = search rules
