use Rattle.std.proofs.Common.{◌∙◌, All, ap, arith, length, subst, sym}
use Rattle.std.specs.Prelude.{IfSome}
use Rattle.fixed_box.specs.World.{BoxInWorld}
use Rattle.morton_key.specs.Order.{order_of}
use Rattle.radix_tree.specs.Fit.{IsFitted, table_of}
use Rattle.walk_list.specs.Lists.{IsOver}
use Rattle.walk_list.specs.Leaves.{leaves_of}
use Rattle.world_index.specs.Worlds.{tris_at, boxes_at}
use Rattle.world_index.specs.Fans.{AreFans}
use Rattle.world_index.specs.Kept.{IsIndex}
use Rattle.world_index.proofs.WorldBoxes.{tris_in_world, boxes_in_world}
use Rattle.world_index.proofs.Indexes.{fitted_index}
use Rattle.world_index.proofs.index.Index.rebuild.Goals as goal

pub order_by_threads-requires-clause-world : goal.order_by_threads-requires-clause-world
order_by_threads-requires-clause-world g c κs within =
    let points = c.args.points.now.items in
    let faces = c.args.faces.now in
    let made = c.in_ok-fit_boxes.ensures.boxes ∙ ap (λ ps. boxes_at ps faces) c.deref.ensures.value in
    subst (All BoxInWorld) (sym (c.deref-2.ensures.value ∙ made))
    (boxes_in_world (tris_at points faces) (tris_in_world points faces c.requires.world c.requires.named))

pub flatten-requires-clause-world : goal.flatten-requires-clause-world
flatten-requires-clause-world g c =
    let points = c.args.points.now.items in
    let faces = c.args.faces.now in
    let made = c.in_ok-fit_boxes.ensures.boxes ∙ ap (λ ps. boxes_at ps faces) c.deref.ensures.value in
    subst (All BoxInWorld) (sym (c.deref-4.ensures.value ∙ made))
    (boxes_in_world (tris_at points faces) (tris_in_world points faces c.requires.world c.requires.named))

pub returns-in_err-self-clause-index : goal.returns-in_err-self-clause-index
returns-in_err-self-clause-index g c =
    subst (λ ps. IsIndex c.fit_boxes.new.self ps c.args.faces.now) c.deref.ensures.value
    c.in_ok-fit_boxes.ensures.index

pub returns-clause-index : goal.returns-clause-index
returns-clause-index g c =
    let points = c.args.points.now.items in
    let faces = c.args.faces.now in
    let old = c.in_ok-fit_boxes.ensures.index in
    let count = ap length c.deref.ensures.value in
    let made = c.in_ok-fit_boxes.ensures.boxes ∙ ap (λ ps. boxes_at ps faces) c.deref.ensures.value in
    let order = c.in_ok-keys.ensures.value ∙ ap order_of (c.deref-2.ensures.value ∙ made)
    ∙ ap (λ ps. order_of (boxes_at ps.items faces)) (sym c.of.ensures) in
    fitted_index _ points faces (c.in_ok-tree.ensures.keys ∙ order)
    (omega (
      arith,
      ap length c.in_ok-tree.ensures.keys,
      c.in_ok-keys.ensures.count,
      ap length c.deref-2.ensures.value,
      old.boxes,
    ))
    (c.clear.ensures.vertices ∙ (old.vertices ∙ count))
    (record {
      each = made;
      nodes = c.in_ok-tree.ensures.value
          ∙ (ap (λ ks. table_of ks c.deref-3.result.now) order
          ∙ ap (table_of (order_of (boxes_at c.of.result.value.items faces))) (c.deref-3.ensures.value ∙ made));
      fits = subst (IsFitted c.in_ok-tree.tree) c.deref-3.ensures.value c.in_ok-tree.ensures.fitted;
      list = subst (IsOver c.in_ok-self.field-0) c.deref-4.ensures.value c.in_ok-self.ensures.over;
      leaves = c.in_ok-self.ensures.leaves ∙ ap (leaves_of c.in_ok-tree.tree.keys) c.deref-4.ensures.value;
    })
    (subst (λ n. IfSome c.fit_boxes.new.self.fans (λ fans. AreFans fans faces n)) count old.fans) tt tt
