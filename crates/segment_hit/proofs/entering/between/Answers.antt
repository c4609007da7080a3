use Rattle.std.proofs.Common.{◌<ℤ◌, arith, w64}
use Rattle.std.proofs.lemmas.Int.{ints, to_z-of_z}
use Rattle.segment_hit.proofs.Chains.{none_above}
use Rattle.segment_hit.proofs.entering.between.Goals as goal

pub returns-then-way-low : goal.returns-then-way-low
returns-then-way-low c T D k =
    let past : c.args.way <ℤ c.args.low = omega (arith, ints) in
    (λ x. absurd x, λ h. none_above c.args.low c.args.way T D c.requires.above past k h.begun)

pub returns : goal.returns
returns c T D k =
    let way = to_z-of_z w64 c.args.way c.ranges.way in
    let low = rw (to_z-of_z w64 c.args.low c.ranges.low, way) at (c.not_below_zero.ensures T D k) in
    let high = rw (to_z-of_z w64 c.args.high c.ranges.high, way) at (c.not_above_one.ensures T D k) in (
      λ x. record { begun = low.0 x.entered; ended = high.0 x.left },
      λ h. record { entered = low.1 h.begun; left = high.1 h.ended },
    )
