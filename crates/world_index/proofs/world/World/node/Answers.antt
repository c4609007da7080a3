use Rattle.std.proofs.Common.{◌∙◌, length, ap, arith, subst, sym}
use Rattle.std.proofs.lemmas.Bool.{false≢true}
use Rattle.world_index.specs.Worlds.{built_order, table}
use Rattle.world_index.specs.Kept.{IsIndex}
use Rattle.world_index.proofs.NodeCounts.{length-table, past_is_refused, free_at_rest}
use Rattle.world_index.proofs.world.World.node.Goals as goal

pub returns-then-nodes-number-clause-reply : goal.returns-then-nodes-number-clause-reply
returns-then-nodes-number-clause-reply g c =
    let world = c.args.self.now in
    let count = ap length c.nodes.ensures.nodes
    ∙ length-table c.self.inside.index.tree world c.nodes.ensures.table
    (c.self.invariant.index.keys ∙ ap built_order c.self.view_is) in
    past_is_refused (table world) c.args.number (omega (arith, count, c.if-nodes-number.true))

pub mend-requires-clause-index : goal.mend-requires-clause-index
mend-requires-clause-index g c κs within =
    subst (λ faces. IsIndex c.self.inside.index c.deref.result.now faces) (sym c.faces.ensures.faces)
    (subst (λ points. IsIndex c.self.inside.index points c.self.inside.mesh.faces) (sym c.deref.ensures.value)
    c.self.invariant.index)

pub returns-in_err-mend-clause-free : goal.returns-in_err-mend-clause-free
returns-in_err-mend-clause-free g c = λ free.
    let world = c.args.self.now in
    let count = ap length c.nodes.ensures.nodes
    ∙ length-table c.self.inside.index.tree world c.nodes.ensures.table
    (c.self.invariant.index.keys ∙ ap built_order c.self.view_is) in
    let rest = free_at_rest world.settled c.args.number (length (table world))
    (omega (arith, count, c.if-nodes-number.false)) free in
    absurd (false≢true
    (c.in_err-mend.ensures.free (c.self.invariant.settled (ap (λ w. w.settled) c.self.view_is ∙ rest))))

pub invariant_of-self-2 : goal.invariant_of-self-2
invariant_of-self-2 g c = record {
  in_world = c.self.invariant.in_world;
  few = c.self.invariant.few;
  named = c.self.invariant.named;
  some_workers = c.self.invariant.some_workers;
  few_workers = c.self.invariant.few_workers;
  index = subst (λ faces. IsIndex c.mend.new.self c.self.inside.points.items faces) c.faces.ensures.faces
      (subst (λ points. IsIndex c.mend.new.self points c.faces.result.now) c.deref.ensures.value
      c.in_ok-mend.ensures.index);
  settled = λ rest. c.in_ok-mend.ensures.mended;
}
