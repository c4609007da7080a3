use Rattle.std.proofs.Common.{w64, ◌/◌}
use Rattle.std.proofs.lemmas.Int.{to_z_pos}
use Rattle.segment_hit.proofs.LowestTerms.{reduced, same_value, some_left, smaller}
use Rattle.segment_hit.proofs.lowest.lowest.Goals as goal

pub invariant_of-result : goal.invariant_of-result
invariant_of-result c =
    rw (
      to_z_pos w64 (c.args.num / c.gcd-shared.result) (smaller _ _ c.requires.num_fits),
      to_z_pos w64 (c.args.den / c.gcd-shared.result) (smaller _ _ c.requires.den_fits),
    )
    (record {
      above = some_left _ _ c.requires.above c.gcd-shared.ensures.1;
      lowest = reduced _ _ _ c.requires.above c.gcd-shared.ensures;
    })

pub returns : goal.returns
returns c =
    rw (
      to_z_pos w64 (c.args.num / c.gcd-shared.result) (smaller _ _ c.requires.num_fits),
      to_z_pos w64 (c.args.den / c.gcd-shared.result) (smaller _ _ c.requires.den_fits),
    )
    (same_value _ _ _ c.gcd-shared.ensures)
