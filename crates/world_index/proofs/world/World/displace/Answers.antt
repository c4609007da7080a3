use Rattle.std.proofs.Common.{◌-◌, All, arith, subst, sym}
use Rattle.std.proofs.Math.ListN.{length-set}
use Rattle.std.proofs.lemmas.Bool.{false≢true}
use Rattle.std.proofs.lemmas.List.Elements.{All-set}
use Rattle.fixed_box.specs.World.{InWorld}
use Rattle.obj_text.specs.Meshes.{IsFaceOf}
use Rattle.world_index.proofs.MovedVertices.{moved_index}
use Rattle.world_index.proofs.world.World.displace.Goals as goal

pub invariant_of-self : goal.invariant_of-self
invariant_of-self c =
    let old = c.self.invariant in
    let points = c.self.inside.points.items in
    let position = c.args.vertex - 1 in
    let count = length-set points position c.args.to in
    record {
      in_world = All-set InWorld points position c.args.to c.requires old.in_world;
      few = omega (arith, count, old.few);
      named = subst (λ n. All (IsFaceOf n) c.self.inside.mesh.faces) (sym count) old.named;
      some_workers = old.some_workers;
      few_workers = old.few_workers;
      index = moved_index c.self.inside.index points c.self.inside.mesh.faces old.index c.mark.new.self position
          c.args.to c.mark.ensures.vertices c.mark.ensures.marked c.mark.ensures.kept;
      settled = λ at_rest. absurd (false≢true at_rest);
    }
