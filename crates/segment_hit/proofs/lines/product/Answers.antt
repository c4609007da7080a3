use Rattle.std.proofs.Common.{pos, ◌<ℤ◌, arith, w64, subst, sym}
use Rattle.std.proofs.lemmas.Int.{ints, to_z-of_z}
use Rattle.segment_hit.proofs.Passages.{product_above}
use Rattle.segment_hit.proofs.lines.product.Goals as goal

pub returns-clause-above : goal.returns-clause-above
returns-clause-above g c =
    let above = product_above c.args.a c.args.b c.requires.a_above c.requires.b_above in
    let value = rw (to_z-of_z w64 c.args.a c.ranges.a, to_z-of_z w64 c.args.b c.ranges.b) at c.times.ensures.value in
    let same : pos 0 <ℤ c.times.result = subst (λ z. pos 0 <ℤ z) (sym value) above in
    omega (arith, ints, same)
