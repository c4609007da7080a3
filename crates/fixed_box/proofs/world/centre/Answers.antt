use Rattle.std.proofs.Common.{arith}
use Rattle.std.proofs.lemmas.Int.{ints}
use Rattle.fixed_box.proofs.world.centre.Goals as goal

pub returns-clause-middle : goal.returns-clause-middle
returns-clause-middle c =
    let m = c.middle.ensures.middle in
    let n = c.middle-2.ensures.middle in
    let o = c.middle-3.ensures.middle in
    record {
      x = record { low = omega (arith, ints, m); high = omega (arith, ints, m) };
      y = record { low = omega (arith, ints, n); high = omega (arith, ints, n) };
      z = record { low = omega (arith, ints, o); high = omega (arith, ints, o) };
    }
