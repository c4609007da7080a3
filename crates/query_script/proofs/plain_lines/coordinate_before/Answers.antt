use Rattle.std.proofs.Common.{rules, sym, ap, ◌∙◌, drop, length, arith}
use Rattle.query_script.specs.Asks.{coordinate_of, first_of}
use Rattle.query_script.proofs.WordsBefore.{words_before, coordinate_known}
use Rattle.query_script.proofs.plain_lines.coordinate_before.Goals as goal

pub returns-clause-value : goal.returns-clause-value
returns-clause-value c =
    let x = c.in-Some in
    ap (λ ws. coordinate_of c.args.unit c.args.bounds (first_of ws))
    (words_before c.args.text.now x._word.now x.rest.now x.ensures.whole x.ensures.plain)
    ∙ coordinate_known c.args.unit c.args.bounds x._word.now x.steps _ x.ensures.value (search rules)

pub returns-clause-rest : goal.returns-clause-rest
returns-clause-rest c =
    let x = c.in-Some in
    let e = words_before c.args.text.now x._word.now x.rest.now x.ensures.whole x.ensures.plain in
    ap (drop 1) (sym e)

pub returns-clause-count : goal.returns-clause-count
returns-clause-count c =
    let x = c.in-Some in
    let e = words_before c.args.text.now x._word.now x.rest.now x.ensures.whole x.ensures.plain in
    omega (arith, ap length e)
