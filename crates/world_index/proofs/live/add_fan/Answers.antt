use Rattle.std.proofs.Common.{◌-◌, ◌<◌, arith, get_or, length, refl, subst, sym}
use Rattle.world_index.specs.Fans.{IsLatest}
use Rattle.world_index.specs.Live.{AddsFan}
use Rattle.world_index.proofs.LivePositions.{one_added}
use Rattle.world_index.proofs.live.add_fan.Goals as goal

pub loop-next-preserved : goal.loop-next-preserved
loop-next-preserved c =
    let faces = c.args.faces.now in
    let positions = c.args.positions.now in
    let next = c.loop-next.next in
    let some = c.loop-next-test.true in
    let inside : next - 1 < length faces = omega (arith, some, c.loop-next.invariant.within) in
    let uses = c.loop-next.invariant.uses some in
    let latest : IsLatest faces (next - 1) c.args.vertex c.before-next.result =
    subst (IsLatest faces (next - 1) c.args.vertex) (sym c.before-next.ensures)
    (c.requires.fans.before (next - 1) c.args.vertex inside uses) in
    record {
      within = omega (arith, latest.within, inside);
      uses = latest.uses;
      added = subst (AddsFan faces positions c.args.vertex c.before-next.result c.args.live.now.items)
          (sym c.in_ok-push.ensures.items)
          (one_added faces positions c.args.vertex c.args.live.now.items c.loop-next.live.items next
          c.before-next.result (get_or positions (next - 1) 0) some c.loop-next.invariant.within uses refl latest
          c.loop-next.invariant.added);
    }
