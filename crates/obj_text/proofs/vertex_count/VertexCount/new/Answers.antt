use Rattle.std.proofs.Common.{arith}
use Rattle.obj_text.proofs.Counts.{vertices_few}
use Rattle.obj_text.proofs.vertex_count.VertexCount.new.Goals as goal

pub returns-clause-few : goal.returns-clause-few
returns-clause-few c = omega (arith, vertices_few c.args.text.now, c.requires)
