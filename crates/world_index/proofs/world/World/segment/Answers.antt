use Rattle.std.proofs.Common.{subst}
use Rattle.world_index.specs.Kept.{IsIndex}
use Rattle.world_index.proofs.WorldBoxes.{tris_of_lists_in_world}
use Rattle.world_index.proofs.world.World.segment.Goals as goal

pub nearest_among-requires-clause-tris : goal.nearest_among-requires-clause-tris
nearest_among-requires-clause-tris g c =
    tris_of_lists_in_world c.self.inside.points.items c.deref-2.result.now c.self.inside.mesh.faces c.faces-2.result.now
    c.deref-2.ensures.value c.faces-2.ensures.faces c.self.invariant.in_world c.self.invariant.named

pub invariant_of-self-2 : goal.invariant_of-self-2
invariant_of-self-2 g c = record {
  in_world = c.self.invariant.in_world;
  few = c.self.invariant.few;
  named = c.self.invariant.named;
  some_workers = c.self.invariant.some_workers;
  few_workers = c.self.invariant.few_workers;
  index = subst (λ faces. IsIndex c.mend.new.self c.self.inside.points.items faces) c.faces.ensures.faces
      (subst (λ points. IsIndex c.mend.new.self points c.faces.result.now) c.deref.ensures.value
      c.in_ok-mend.ensures.index);
  settled = λ rest. c.in_ok-mend.ensures.mended;
}
