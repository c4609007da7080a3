use Rattle.std.proofs.Common.{◌≡◌, ◌≤ℤ◌, ◌<ℤ◌, arith}
use Rattle.std.proofs.lemmas.Int.{ints}
use Rattle.segment_hit.proofs.Axes.{span_rising, span_falling, span_resting, span_below, span_above}
use Rattle.segment_hit.proofs.entering.span.Goals.{then-from-lo-via-then-from-lo, then-from-lo-via-else-from-lo+then-hi-from}
use Rattle.segment_hit.proofs.entering.span.Goals as goal

pub between-requires-clause-above : goal.between-requires-clause-above
between-requires-clause-above c = omega (arith, ints, c.step-then-from-to-2.ensures)

pub between-requires-then-to-from-clause-above : goal.between-requires-then-to-from-clause-above
between-requires-then-to-from-clause-above c = omega (arith, ints, c.step-then-to-from-3.ensures)

pub returns-then-from-to : goal.returns-then-from-to
returns-then-from-to c =
    span_rising c.between.result c.args.from c.args.to c.args.lo c.args.hi _ _ _
    (omega (arith, ints, c.step.ensures)) (omega (arith, ints, c.step-then-from-to.ensures))
    (omega (arith, ints, c.step-then-from-to-2.ensures)) c.between.ensures

pub returns-then-to-from : goal.returns-then-to-from
returns-then-to-from c =
    span_falling c.between-then-to-from.result c.args.from c.args.to c.args.lo c.args.hi _ _ _
    (omega (arith, ints, c.step-then-to-from.ensures)) (omega (arith, ints, c.step-then-to-from-2.ensures))
    (omega (arith, ints, c.step-then-to-from-3.ensures)) c.between-then-to-from.ensures

pub returns-then-from-lo : goal.returns-then-from-lo
returns-then-from-lo c =
    let same : c.args.from ≡ c.args.to = omega (arith, ints) in
    elim c.then-from-lo.branch [
      | then-from-lo-via-then-from-lo w ↦
          let l : c.args.from <ℤ c.args.lo = omega (arith, ints, w.if-from-lo) in
          span_below c.args.from c.args.to c.args.lo c.args.hi same l
      | then-from-lo-via-else-from-lo+then-hi-from w ↦
          let l : c.args.hi <ℤ c.args.from = omega (arith, ints, w.if-hi-from) in
          span_above c.args.from c.args.to c.args.lo c.args.hi same l
    ]

pub returns : goal.returns
returns c =
    let same : c.args.from ≡ c.args.to = omega (arith, ints) in
    let low : c.args.lo ≤ℤ c.args.from = omega (arith, ints) in
    let high : c.args.from ≤ℤ c.args.hi = omega (arith, ints) in
    span_resting c.whole_way.result c.args.from c.args.to c.args.lo c.args.hi c.whole_way.ensures same low high
