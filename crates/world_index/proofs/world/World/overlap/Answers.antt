use Rattle.std.proofs.Common.{subst}
use Rattle.world_index.specs.Kept.{IsIndex}
use Rattle.world_index.proofs.Indexes.{box_asked}
use Rattle.world_index.proofs.world.World.overlap.Goals as goal

pub invariant_of-self-2 : goal.invariant_of-self-2
invariant_of-self-2 g c =
    let index = subst (λ faces. IsIndex c.mend.new.self c.self.inside.points.items faces) c.faces.ensures.faces
    (subst (λ points. IsIndex c.mend.new.self points c.faces.result.now) c.deref.ensures.value
    c.in_ok-mend.ensures.index) in
    record {
      in_world = c.self.invariant.in_world;
      few = c.self.invariant.few;
      named = c.self.invariant.named;
      some_workers = c.self.invariant.some_workers;
      few_workers = c.self.invariant.few_workers;
      index = box_asked c.mend.new.self c.self.inside.points.items c.self.inside.mesh.faces index c.args.around.now
          c.in_ok-mend.ensures.mended;
      settled = λ rest. c.in_ok-mend.ensures.mended;
    }
