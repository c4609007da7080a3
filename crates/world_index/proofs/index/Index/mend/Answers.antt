use Rattle.std.proofs.Common.{◌<◌, ◌∙◌, All, ap, length, subst, sym}
use Rattle.std.specs.Prelude.{IfSome}
use Rattle.fixed_box.specs.World.{BoxInWorld}
use Rattle.obj_text.specs.Meshes.{IsFaceOf}
use Rattle.morton_key.specs.Keys.{IsLawful}
use Rattle.arrival_core.specs.Tasks.{FitsButFor}
use Rattle.walk_list.specs.Lists.{IsOver}
use Rattle.walk_list.specs.Moving.{AreOverBut}
use Rattle.walk_list.proofs.Moved.{same_keys}
use Rattle.world_index.specs.Fans.{AreFans}
use Rattle.world_index.specs.Live.{AreLive, ArePositions}
use Rattle.world_index.specs.Worlds.{tris_at}
use Rattle.world_index.proofs.WorldBoxes.{tris_in_world, boxes_in_world}
use Rattle.world_index.proofs.Indexes.{tree_fitted}
use Rattle.world_index.proofs.Standing.{fitted_but, over_but, leaf_count}
use Rattle.world_index.proofs.index.Index.mend.Goals as goal

pub live_of-requires-clause-lawful : goal.live_of-requires-clause-lawful
live_of-requires-clause-lawful g c = subst IsLawful (sym c.keys.ensures.keys) c.keys.ensures.table.lawful

pub live_of-requires-clause-faces : goal.live_of-requires-clause-faces
live_of-requires-clause-faces g c =
    ap length c.keys.ensures.keys ∙ c.in_ok-fit_boxes.ensures.index.triangles

pub live_of-requires-clause-named : goal.live_of-requires-clause-named
live_of-requires-clause-named g c =
    subst (λ n. All (IsFaceOf n) c.args.faces.now) (sym c.in_ok-fit_boxes.ensures.index.vertices) c.requires.named

pub live_of-requires-clause-fans : goal.live_of-requires-clause-fans
live_of-requires-clause-fans g c =
    let index = c.fit_boxes.new.self in
    subst (λ n. IfSome index.fans (λ fans. AreFans fans c.args.faces.now n))
    (sym c.in_ok-fit_boxes.ensures.index.vertices) c.in_ok-fit_boxes.ensures.index.fans

pub live_of-requires-clause-positions : goal.live_of-requires-clause-positions
live_of-requires-clause-positions g c =
    let index = c.fit_boxes.new.self in
    subst (λ ks. IfSome index.positions (λ ps. ArePositions ps.items ks)) (sym c.keys.ensures.keys)
    c.in_ok-fit_boxes.ensures.index.positions

pub fit_tree-requires-clause-rest : goal.fit_tree-requires-clause-rest
fit_tree-requires-clause-rest g c κs within =
    let index = c.fit_boxes.new.self in
    let faces = c.args.faces.now in
    let live = c.in_ok-live.live.items in
    let listed : AreLive faces index.tree.keys index.marks.moved live =
    subst (λ ks. AreLive faces ks index.marks.moved live) c.keys.ensures.keys c.in_ok-live.ensures.live in
    subst (λ ps. FitsButFor index.tree c.deref.result.now ps) (sym c.deref-2.ensures.value)
    (subst (λ boxes. FitsButFor index.tree boxes live) (sym c.deref.ensures.value)
    (fitted_but index c.args.points.now faces c.in_ok-fit_boxes.ensures.index c.keys.ensures.table.lawful live listed))

pub refit-requires-clause-within : goal.refit-requires-clause-within
refit-requires-clause-within g c =
    let index = c.fit_boxes.new.self in
    let faces = c.args.faces.now in
    let live = c.in_ok-live.live.items in
    let listed : AreLive faces index.tree.keys index.marks.moved live =
    subst (λ ks. AreLive faces ks index.marks.moved live) c.keys.ensures.keys c.in_ok-live.ensures.live in
    let count = leaf_count index c.args.points.now faces c.in_ok-fit_boxes.ensures.index c.keys.ensures.table.lawful
    live listed in
    subst (All (λ p. p < length index.list.leaves)) (sym c.deref-4.ensures.value)
    (subst (λ n. All (λ p. p < n) live) (sym count) listed.below)

pub refit-requires-clause-world : goal.refit-requires-clause-world
refit-requires-clause-world g c =
    let points = c.args.points.now in
    let faces = c.args.faces.now in
    subst (All BoxInWorld) (sym (c.deref-3.ensures.value ∙ c.in_ok-fit_boxes.ensures.boxes))
    (boxes_in_world (tris_at points faces) (tris_in_world points faces c.requires.world c.requires.named))

pub refit-requires-clause-over : goal.refit-requires-clause-over
refit-requires-clause-over g c =
    let index = c.fit_boxes.new.self in
    let faces = c.args.faces.now in
    let live = c.in_ok-live.live.items in
    let listed : AreLive faces index.tree.keys index.marks.moved live =
    subst (λ ks. AreLive faces ks index.marks.moved live) c.keys.ensures.keys c.in_ok-live.ensures.live in
    subst (λ ps. AreOverBut index.list.leaves c.deref-3.result.now ps) (sym c.deref-4.ensures.value)
    (subst (λ boxes. AreOverBut index.list.leaves boxes live) (sym c.deref-3.ensures.value)
    (over_but index c.args.points.now faces c.in_ok-fit_boxes.ensures.index c.keys.ensures.table.lawful live listed))

pub returns-clause-index : goal.returns-clause-index
returns-clause-index g c =
    let index = c.fit_boxes.new.self in
    let were = c.in_ok-fit_boxes.ensures.index.were in
    let over = subst (IsOver c.refit.new.self) c.deref-3.ensures.value c.refit.ensures.over in
    let stand = subst (λ ks. IfSome c.live_of.new.positions (λ ps. ArePositions ps.items ks)) c.keys.ensures.keys
    c.live_of.ensures.positions in
    tree_fitted index c.args.points.now c.args.faces.now c.in_ok-fit_boxes.ensures.index
    c.deref.result.now c.fit_tree.new.tree c.refit.new.self c.fit_tree.new.ways c.live_of.new.positions
    c.clear.new.self c.in_ok-fit_boxes.ensures.boxes c.deref.ensures.value c.in_ok-fit_tree.ensures.shape.keys
    c.in_ok-fit_tree.ensures.value c.in_ok-fit_tree.ensures.fitted over
    (same_keys index.list c.refit.new.self index.tree.keys were.before index.boxes.items were.leaves
    (were.count ∙ were.tree.count) over c.refit.ensures.numbers)
    c.fit_tree.ensures.ways stand c.clear.ensures.vertices
