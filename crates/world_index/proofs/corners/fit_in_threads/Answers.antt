use Rattle.std.proofs.Common.{◌≡◌, ◌∙◌, length, get_or, sym, subst, arith}
use Rattle.std.proofs.lemmas.List.{ext_get_or, get_or-map, length-map}
use Rattle.fixed_box.specs.Extent.{tri_box}
use Rattle.fixed_box.specs.declared.shapes.Box3.{Box3}
use Rattle.obj_text.specs.declared.face.Face.{Face}
use Rattle.world_index.specs.Worlds.{tri_of, tris_at, boxes_at}
use Rattle.world_index.specs.Kept.{box_at}
use Rattle.world_index.proofs.corners.fit_in_threads.Goals as goal

pub returns : goal.returns
returns g c =
    let points = c.args.points.now in
    let faces = c.args.faces.now in
    let new = c.par_for_each_mut.new.s in
    let no_face : Face = record { a = 0; b = 0; c = 0 } in
    let nothing : Box3 = tri_box (tri_of points no_face) in
    let tris = tris_at points faces in
    let count : length new ≡ length faces = c.par_for_each_mut.auto.s ∙ c.requires.room in
    let within : length tris ≡ length faces = length-map faces (tri_of points) in
    let all : length (boxes_at points faces) ≡ length faces = length-map tris tri_box ∙ within in
    ext_get_or nothing new (boxes_at points faces) (count ∙ sym all) (λ k. λ lt.
    let at = (c.par_for_each_mut.ensures k nothing (omega (arith, lt, c.par_for_each_mut.auto.s))).1 in
    let tri : get_or tris k (tri_of points no_face) ≡ tri_of points (get_or faces k no_face) =
    get_or-map (tri_of points) faces k no_face (tri_of points no_face) (omega (arith, lt, count)) in
    let box : get_or (boxes_at points faces) k nothing ≡ tri_box (get_or tris k (tri_of points no_face)) =
    get_or-map tri_box tris k (tri_of points no_face) nothing (omega (arith, lt, count, within)) in
    let wanted : get_or (boxes_at points faces) k nothing ≡ box_at points faces k =
    subst (λ t. get_or (boxes_at points faces) k nothing ≡ tri_box t) tri box in
    subst (λ b. b ≡ get_or (boxes_at points faces) k nothing) at.left (at.call ∙ sym wanted))
