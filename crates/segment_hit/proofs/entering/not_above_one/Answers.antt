use Rattle.std.proofs.Common.{◌<ℤ◌, arith, w64}
use Rattle.std.proofs.lemmas.Int.{ints, to_z-of_z}
use Rattle.segment_hit.proofs.Chains.{one_does}
use Rattle.segment_hit.proofs.entering.not_above_one.Goals as goal

pub returns-then-den-num : goal.returns-then-den-num
returns-then-den-num c T D k =
    let past : c.args.den <ℤ c.args.num = omega (arith, ints) in
    rw (to_z-of_z w64 c.args.den c.ranges.den) (one_does c.args.num c.args.den T D c.requires.above past k)
