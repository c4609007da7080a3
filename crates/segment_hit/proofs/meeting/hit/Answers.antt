use Rattle.std.proofs.Common.{◌≡◌, pos, ◌<ℤ◌, arith, None}
use Rattle.std.proofs.lemmas.Int.{ints}
use Rattle.segment_hit.proofs.Divisions.{faced_solve, faced_crosses, faced_parallel}
use Rattle.segment_hit.proofs.Hits.{hit_found, hit_only}
use Rattle.segment_hit.proofs.HitValues.{value_is}
use Rattle.segment_hit.specs.Determinants.{shares}
use Rattle.segment_hit.proofs.meeting.hit.Goals as goal

pub returns-clause-found : goal.returns-clause-found
returns-clause-found c =
    let n = c.facing-measured.result in
    let above : pos 0 <ℤ n.whole = omega (arith, ints) in
    let same = c.facing-measured.ensures.same_ratios in
    hit_found _ _ _ (shares n) _ (faced_crosses _ _ _ c.measure.result n c.measure.ensures same above)
    (faced_solve _ _ _ c.measure.result n c.measure.ensures same) above c.settle.ensures.found

pub returns-clause-only : goal.returns-clause-only
returns-clause-only c =
    let n = c.facing-measured.result in
    let above : pos 0 <ℤ n.whole = omega (arith, ints) in
    let same = c.facing-measured.ensures.same_ratios in
    let solves = faced_solve _ _ _ c.measure.result n c.measure.ensures same in
    hit_only _ _ _ (shares n) _ solves above c.settle.ensures.only

pub returns-then-measured-le0-clause-only : goal.returns-then-measured-le0-clause-only
returns-then-measured-le0-clause-only c T D h =
    let n = c.facing-measured.result in
    let zero : n.whole ≡ pos 0 = omega (arith, ints, c.facing-measured.ensures.front) in
    h.crosses (faced_parallel _ _ _ c.measure.result n c.measure.ensures c.facing-measured.ensures.same_ratios zero)

pub returns-clause-value : goal.returns-clause-value
returns-clause-value c =
    value_is c.args.p c.args.q c.args.t.now c.settle.result (returns-clause-found c) (returns-clause-only c)

pub returns-then-measured-le0-clause-value : goal.returns-then-measured-le0-clause-value
returns-then-measured-le0-clause-value c =
    value_is c.args.p c.args.q c.args.t.now None tt (returns-then-measured-le0-clause-only c)
