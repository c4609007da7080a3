use Rattle.std.proofs.Common.{◌∙◌, rules, sym, subst, List, All}
use Rattle.fixed_box.specs.declared.shapes.Box3.{Box3}
use Rattle.fixed_box.specs.declared.shapes.Tri.{Tri}
use Rattle.fixed_box.specs.World.{BoxInWorld, TriInWorld}
use Rattle.host_index.proofs.index.Goals as goal

pub order_by_threads-requires-clause-world : goal.order_by_threads-requires-clause-world
order_by_threads-requires-clause-world g c = λ κs within.
    let tested : All TriInWorld c.deref.result.now = c.are_in_world.ensures (search rules) in
    let tris : All TriInWorld c.deref-2.result.now =
    subst (λ (ts : List Tri). All TriInWorld ts) (c.deref.ensures.value ∙ sym c.deref-2.ensures.value) tested in
    subst (λ (bs : List Box3). All BoxInWorld bs) (sym c.deref-3.ensures.value) (c.in_ok-boxes.ensures.world tris)
