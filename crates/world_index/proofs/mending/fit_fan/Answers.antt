use Rattle.std.proofs.Common.{◌≡◌, ◌-◌, ◌<◌, ◌∙◌, arith, ap, length, refl, subst, sym}
use Rattle.fixed_box.specs.Extent.{tri_box}
use Rattle.world_index.specs.Fans.{IsLatest}
use Rattle.world_index.proofs.MendedBoxes.{one_back, others_stay}
use Rattle.world_index.proofs.mending.fit_fan.Goals as goal

pub loop-next-preserved : goal.loop-next-preserved
loop-next-preserved c =
    let points = c.args.points.now in
    let faces = c.args.faces.now in
    let next = c.loop-next.next in
    let inside : next - 1 < length faces = omega (arith, c.loop-next-test.true, c.loop-next.invariant.within) in
    let count : length c.loop-next.boxes ≡ length faces = c.loop-next.auto.boxes ∙ c.requires.room in
    let uses = c.loop-next.invariant.uses c.loop-next-test.true in
    let latest : IsLatest faces (next - 1) c.args.vertex c.before-next.result =
    subst (IsLatest faces (next - 1) c.args.vertex) (sym c.before-next.ensures)
    (c.requires.fans.before (next - 1) c.args.vertex inside uses) in
    let made = c.box_of.ensures.value ∙ ap tri_box c.triangle.ensures in
    record {
      within = omega (arith, latest.within, inside);
      uses = latest.uses;
      done = one_back points faces c.loop-next.boxes count (next - 1) inside c.box_of.result made c.args.vertex next
          c.before-next.result refl c.loop-next-test.true latest c.loop-next.invariant.done;
      kept = λ t lt right. others_stay points faces c.loop-next.boxes count (next - 1) inside c.box_of.result made t
          (c.loop-next.invariant.kept t lt right);
    }
