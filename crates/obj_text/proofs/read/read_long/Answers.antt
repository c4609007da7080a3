use Rattle.std.proofs.Common.{rules}
use Rattle.obj_text.proofs.Outcomes.{whole_makes_mesh, whole_mesh}
use Rattle.obj_text.proofs.read.read_long.Goals as goal

pub mesh_of_part-requires : goal.mesh_of_part-requires
mesh_of_part-requires g c =
    let part = c.in_ok-part.part in
    record {
      mesh = whole_makes_mesh c.args.unit c.args.bytes.now part.points.items part.faces.items part.runs.items part.name
          (search rules);
    }

pub returns-in-Ok : goal.returns-in-Ok
returns-in-Ok g c =
    let part = c.in_ok-part.part in
    let mesh = whole_mesh c.args.unit c.args.bytes.now part.points.items part.faces.items part.runs.items part.name
    (search rules) in
    search (rules, mesh)
