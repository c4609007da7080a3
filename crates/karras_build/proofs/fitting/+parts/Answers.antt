use Rattle.std.proofs.Common.{◌≡◌, ◌+◌, ◌-◌, [], ◌∷◌, length, arith, rules}
use Rattle.karras_build.specs.Spans.{span_at}
use Rattle.karras_build.proofs.PartLaws.{rows_joined, span_inside, left_below, right_below, own_row, leaf_fit, both_halves}
use Rattle.karras_build.proofs.fitting.+parts.Goals as goal

pub fit_below-returns-clause-rows : goal.fit_below-returns-clause-rows
fit_below-returns-clause-rows g t c =
    let cut = c.args.cut in
    let front : length c.fit_halves.new.left ≡ cut.split - cut.first = search rules in
    rows_joined c.args.inputs.now c.requires.inputs _ _ _ _ (omega (arith, front, c.requires.halves.left.order))
    c.fit_halves.ensures.left.rows c.fit_halves.ensures.right.rows

pub fit_below-returns-clause-fit : goal.fit_below-returns-clause-fit
fit_below-returns-clause-fit g t c =
    both_halves c.args.inputs.now c.requires.inputs _ _ _ _ _ _ c.requires.halves.left.order
    c.requires.halves.right.order c.fit_halves.ensures.left.least c.fit_halves.ensures.right.least
    c.union.ensures.least

pub fit_left-returns-in_default-clause-fit : goal.fit_left-returns-in_default-clause-fit
fit_left-returns-in_default-clause-fit g t c =
    leaf_fit c.args.inputs.now c.requires.inputs c.requires.part (search rules) _ c.box_at.ensures

pub fit_left-bounds-inputs-last : goal.fit_left-bounds-inputs-last
fit_left-bounds-inputs-last g t c =
    span_inside c.args.inputs.now c.requires.inputs c.requires.part (search rules)

pub fit_left-fit_below-fit-requires-clause-halves : goal.fit_left-fit_below-fit-requires-clause-halves
unfolding span_at
fit_left-fit_below-fit-requires-clause-halves g t c κs within = record {
  left = left_below c.args.inputs.now c.requires.inputs c.requires.part (search rules);
  right = right_below c.args.inputs.now c.requires.inputs c.requires.part (search rules);
}

pub fit_left-returns-clause-rows : goal.fit_left-returns-clause-rows
unfolding span_at
fit_left-returns-clause-rows g t c =
    let rest : length c.fit_below-fit.new.below + 1 ≡ length c.args.part.now = search rules in
    rows_joined c.args.inputs.now c.requires.inputs _ c.args.last _ _ (omega (arith, rest, c.requires.part.room))
    c.fit_below-fit.ensures.rows
    (own_row c.args.inputs.now c.requires.inputs c.requires.part (search rules) _ c.fit_below-fit.ensures.fit)

pub fit_right-returns-in_default-clause-fit : goal.fit_right-returns-in_default-clause-fit
fit_right-returns-in_default-clause-fit g t c =
    leaf_fit c.args.inputs.now c.requires.inputs c.requires.part (search rules) _ c.box_at.ensures

pub fit_right-bounds-inputs-first : goal.fit_right-bounds-inputs-first
fit_right-bounds-inputs-first g t c =
    span_inside c.args.inputs.now c.requires.inputs c.requires.part (search rules)

pub fit_right-fit_below-fit-requires-clause-halves : goal.fit_right-fit_below-fit-requires-clause-halves
unfolding span_at
fit_right-fit_below-fit-requires-clause-halves g t c κs within = record {
  left = left_below c.args.inputs.now c.requires.inputs c.requires.part (search rules);
  right = right_below c.args.inputs.now c.requires.inputs c.requires.part (search rules);
}

pub fit_right-returns-clause-rows : goal.fit_right-returns-clause-rows
unfolding span_at
fit_right-returns-clause-rows g t c =
    rows_joined c.args.inputs.now c.requires.inputs c.args.first (c.args.first + 1) (_ ∷ []) _ (omega arith)
    (own_row c.args.inputs.now c.requires.inputs c.requires.part (search rules) _ c.fit_below-fit.ensures.fit)
    c.fit_below-fit.ensures.rows
