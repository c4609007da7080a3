use Rattle.std.proofs.Common.{Some, ◌∙◌, arith, rules, subst, sym}
use Rattle.std.proofs.lemmas.List.{take_at}
use Rattle.std.specs.Vec.{with_items}
use Rattle.world_index.specs.Fans.{face_at}
use Rattle.world_index.specs.Live.{IsStill}
use Rattle.world_index.specs.Kept.{IsRight}
use Rattle.world_index.proofs.Indexes.{boxes_made}
use Rattle.world_index.proofs.index.Index.fit_boxes.Goals as goal

pub fit_moved-requires-clause-still : goal.fit_moved-requires-clause-still
fit_moved-requires-clause-still c = λ t lt still.
    let points = c.args.points.now in
    let faces = c.args.faces.now in
    subst (λ boxes. IsRight points faces boxes t) (sym c.deref_mut.ensures.value)
    (c.requires.index.right t lt (subst (λ moved. IsStill moved (face_at faces t)) c.moved.ensures.moved still))

pub returns-clause-index : goal.returns-clause-index
returns-clause-index c =
    boxes_made c.args.self.now c.args.points.now c.args.faces.now c.requires.index
    (with_items c.args.self.now.boxes c.fit_moved.new.boxes) (Some c.match-take.fans) c.last_work.result
    (take_at c.fit_moved.new.boxes _ c.args.self.now.boxes.len
    (omega (arith, c.fit_moved.auto.boxes, c.deref_mut.ensures.len)) ∙ c.fit_moved.ensures) (search rules)
