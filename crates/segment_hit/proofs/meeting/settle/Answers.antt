use Rattle.std.proofs.Common.{◌≤ℤ◌, pos, arith, w64}
use Rattle.std.proofs.lemmas.Int.{ints, fits_signed_from_abs}
use Rattle.segment_hit.proofs.Signs.{unchanged}
use Rattle.segment_hit.proofs.meeting.settle.Goals as goal

pub returns-clause-found : goal.returns-clause-found
returns-clause-found c =
    let time : pos 0 ≤ℤ c.args.m.now.time = omega (arith, ints) in
    let whole : pos 0 ≤ℤ c.args.m.now.whole = omega (arith, ints) in (
      record {
        begun = time;
        ended = omega (arith, ints);
        second_weight = omega (arith, ints);
        third_weight = omega (arith, ints);
        first_weight = omega (arith, ints);
      },
      rw (
        unchanged c.args.m.now.time (fits_signed_from_abs w64 c.args.m.now.time (omega arith)) time,
        unchanged c.args.m.now.whole
            (fits_signed_from_abs w64 c.args.m.now.whole (omega arith)) whole,
      ) at c.lowest.ensures,
    )
