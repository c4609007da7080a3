use Rattle.std.proofs.Common.{◌∙◌, ◌+◌, sym, arith, refl}
use Rattle.segment_hit.proofs.Passed.{coordinate_passed, number_passed}
use Rattle.segment_hit.proofs.LineAxes.{ends_up, ends_down}
use Rattle.segment_hit.specs.declared.line.TheConstants.{SCALE, PRODUCT}
use Rattle.segment_hit.specs.declared.vectors.TheConstants.{SQUARE}
use Rattle.segment_hit.proofs.crossings.exit_at.Goals as goal

pub returns-then-a : goal.returns-then-a
returns-then-a c =
    let a = c.args.a.now in
    number_passed c.over_and.result (PRODUCT + SQUARE) c.over_and.ensures.size (omega arith)
    ∙ ((rw (
      coordinate_passed a.from a.from_small,
      coordinate_passed c.args.hi c.requires.hi,
      number_passed a.scale SCALE a.scale_small (omega arith),
      number_passed a.slack SQUARE a.slack_small (omega arith),
    ) at c.over_and.ensures.value)
    ∙ sym (ends_up a c.args.lo c.args.hi _ _ _ refl refl refl c.if-a.true).1)

pub returns : goal.returns
returns c =
    let a = c.args.a.now in
    number_passed c.over_and-2.result (PRODUCT + SQUARE) c.over_and-2.ensures.size (omega arith)
    ∙ ((rw (
      coordinate_passed a.from a.from_small,
      coordinate_passed c.args.lo c.requires.lo,
      number_passed a.scale SCALE a.scale_small (omega arith),
      number_passed a.slack SQUARE a.slack_small (omega arith),
    ) at c.over_and-2.ensures.value)
    ∙ sym (ends_down a c.args.lo c.args.hi _ _ _ refl refl refl c.if-a.false).1)
