use Rattle.std.proofs.Common.{arith}
use Rattle.std.proofs.lemmas.Grind.{common_steps}
use Rattle.obj_text.specs.HeightFields.{square_faces}
use Rattle.obj_text.proofs.height_field.add_square.Goals as goal

pub returns : goal.returns
unfolding square_faces
returns c = grind (arith, common_steps)
