use Rattle.std.proofs.Common.{◌≡◌, ◌<ℤ◌, arith}
use Rattle.std.proofs.lemmas.Int.{ints}
use Rattle.segment_hit.proofs.LineAxes.{axis_rising, axis_falling, axis_resting}
use Rattle.segment_hit.proofs.crossings.axis_of.Goals as goal

pub returns-then-from-to : goal.returns-then-from-to
returns-then-from-to c =
    axis_rising c.made.result c.args.from c.args.to c.args.way c.args.others c.args.whole
    (omega (arith, ints, c.made.ensures.from))
    c.requires.way c.requires.others c.requires.whole (omega (arith, ints)) c.made.ensures.rises
    (omega (arith, ints, c.made.ensures.scale)) c.made.ensures.slack

pub returns-then-to-from : goal.returns-then-to-from
returns-then-to-from c =
    axis_falling c.made-then-to-from.result c.args.from c.args.to c.args.way c.args.others c.args.whole
    (omega (arith, ints, c.made-then-to-from.ensures.from))
    c.requires.way c.requires.others c.requires.whole (omega (arith, ints)) c.made-then-to-from.ensures.rises
    (omega (arith, ints, c.made-then-to-from.ensures.scale)) c.made-then-to-from.ensures.slack

pub returns : goal.returns
returns c =
    let same : c.args.from ≡ c.args.to = omega (arith, ints) in
    axis_resting c.made-2.result c.args.from c.args.to c.args.way c.args.others c.args.whole
    (omega (arith, ints, c.made-2.ensures.from))
    c.requires.way c.requires.others c.requires.whole same c.made-2.ensures.rises
    (omega (arith, ints, c.made-2.ensures.scale, c.times.ensures.value))
    (omega (arith, ints, c.made-2.ensures.slack))
