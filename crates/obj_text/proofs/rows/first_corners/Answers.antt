use Rattle.std.proofs.Common.{sym, subst}
use Rattle.obj_text.specs.Steps.{IsOutcome}
use Rattle.obj_text.proofs.PlainReferences.{numbers_name}
use Rattle.obj_text.proofs.rows.first_corners.Goals as goal

pub returns-in-Some-clause-corners : goal.returns-in-Some-clause-corners
returns-in-Some-clause-corners c =
    let named = numbers_name c.args.vertices.now c.args.before c.in-Some.a c.in-Some.b c.in-Some.c c.args.line.now.words
    c.three_numbers.new.self.words c.in-Some.ensures.numbers in
    subst (λ k. IsOutcome k c.numbered_corners.result) (sym named) c.numbered_corners.ensures.corners
