use Rattle.std.proofs.Common.{arith, refl}
use Rattle.std.proofs.lemmas.List.Filters.{dedup_is}
use Rattle.world_index.proofs.LivePositions.{one_fan_more, fans_sorted}
use Rattle.world_index.proofs.live.gathered.Goals as goal

pub loop-vertex-preserved : goal.loop-vertex-preserved
loop-vertex-preserved c =
    one_fan_more c.args.faces.now c.args.positions.now c.args.moved.now c.loop-vertex.vertex-index _
    c.loop-vertex.live.items c.add_fan.new.live.items refl c.loop-vertex.invariant c.in_ok-add_fan.ensures

pub returns : goal.returns
returns c =
    fans_sorted c.args.faces.now c.args.positions.now c.args.moved.now c.loop-vertex.vertex-index
    c.loop-vertex.live.items c.sort_unstable.new.self.items c.dedup.new.self.items
    (omega (arith, c.loop-vertex-test.false, c.loop-vertex.auto.vertex-index-end)) c.loop-vertex.invariant
    c.sort_unstable.ensures.permutation c.sort_unstable.ensures.sorted (dedup_is _ _ _ c.dedup.ensures.filtered)
