use Rattle.std.proofs.Common.{rules, arith, ap, sym, subst, ◌≤◌, length}
use Rattle.obj_text.specs.Meshes.{IsMesh}
use Rattle.obj_text.proofs.FieldMeshes.{few_faces, is_mesh, is_field_mesh}
use Rattle.obj_text.proofs.height_field.field_mesh.Goals as goal

pub group_faces-requires-clause-few : goal.group_faces-requires-clause-few
group_faces-requires-clause-few c =
    let few = few_faces c.args.side c.requires.most in
    omega (arith, few, ap length c.in_ok-faces.ensures, c.len.ensures, ap length c.new-group_of.ensures.items)

pub returns : goal.returns
returns c =
    let some : 1 ≤ c.args.side = omega arith in
    search (rules, is_field_mesh, some)

pub invariant_of-result : goal.invariant_of-result
invariant_of-result c = subst IsMesh (sym (returns c)) (is_mesh c.args.side c.requires.most)
