use Rattle.std.proofs.Common.{rules, arith, subst, List}
use Rattle.fixed_box.specs.World.{InWorld}
use Rattle.fixed_box.specs.declared.shapes.Point.{Point}
use Rattle.obj_text.specs.Arrays.{lists, HasSizes, IsFirstWrong}
use Rattle.obj_text.proofs.mesh.Mesh.of.Goals as goal

pub returns-in-Some-clause-fault : goal.returns-in-Some-clause-fault
returns-in-Some-clause-fault c =
    let sizes : HasSizes (lists c.args.points.items c.args.faces.items c.args.groups.keys c.args.group_of.items) =
    record { few_points = omega arith; few_faces = omega arith; one_group = search rules } in (
      sizes,
      subst (λ (points : List Point). IsFirstWrong InWorld points c.in-Some.point) c.deref.ensures.value
          c.in-Some.ensures.some,
    )
