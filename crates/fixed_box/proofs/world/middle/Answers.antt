use Rattle.std.proofs.Common.{◌≡◌, pos, ◌+ℤ◌, rules, w32, FitsSigned}
use Rattle.std.specs.Int.{int_div_euclid}
use Rattle.std.proofs.lemmas.Int.{to_z-of_z}
use Rattle.fixed_box.proofs.InTheWorld.{middle_is}
use Rattle.fixed_box.proofs.world.middle.Goals as goal

pub returns-clause-middle : goal.returns-clause-middle
returns-clause-middle c =
    let f : FitsSigned w32 c.div_euclid.result = search rules in
    let s : FitsSigned w32 (c.args.lo +ℤ c.args.hi) = search rules in
    let e : c.div_euclid.result ≡ int_div_euclid (c.args.lo +ℤ c.args.hi) (pos 2) =
    rw (
      to_z-of_z w32 c.args.lo c.ranges.lo,
      to_z-of_z w32 c.args.hi c.ranges.hi,
      to_z-of_z w32 (c.args.lo +ℤ c.args.hi) s,
    )
    at c.div_euclid.ensures in
    rw (to_z-of_z w32 c.div_euclid.result f) (middle_is c.args.lo c.args.hi c.div_euclid.result e)
