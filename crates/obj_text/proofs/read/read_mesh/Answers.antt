use Rattle.std.proofs.Common.{rules}
use Rattle.obj_text.proofs.Outcomes.{whole_makes_mesh, whole_mesh, refused_if}
use Rattle.obj_text.proofs.read.read_mesh.Goals as goal

pub mesh_of_part-requires : goal.mesh_of_part-requires
mesh_of_part-requires c =
    let part = c.in_ok-part.part in
    record {
      mesh = whole_makes_mesh c.args.unit c.args.bytes.now part.points.items part.faces.items part.runs.items part.name
          (search rules);
    }

pub returns-in_err-part-clause-refusal : goal.returns-in_err-part-clause-refusal
returns-in_err-part-clause-refusal c =
    let refused = refused_if c.args.unit c.args.bytes.now c.read_part.result (search rules) in
    search (rules, refused)

pub returns-in-Ok-clause-mesh : goal.returns-in-Ok-clause-mesh
returns-in-Ok-clause-mesh c =
    let part = c.in_ok-part.part in
    let mesh = whole_mesh c.args.unit c.args.bytes.now part.points.items part.faces.items part.runs.items part.name
    (search rules) in
    search (rules, mesh)
