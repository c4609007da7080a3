use Rattle.std.proofs.Common.{arith}
use Rattle.std.proofs.lemmas.Int.{ints, to_z-of_z}
use Rattle.obj_text.specs.HeightFields.{vertex_at}
use Rattle.obj_text.proofs.height_field.vertex_at.Goals as goal

pub returns : goal.returns
unfolding vertex_at
returns c = search (arith, ints, to_z-of_z, c.along.ensures, c.along-2.ensures, c.height_at.ensures)
