use Rattle.std.proofs.Common.{rules}
use Rattle.obj_text.proofs.PlainReferences.{number_cut_off}
use Rattle.obj_text.proofs.references.cut_off_number.Goals as goal

pub returns-clause-value : goal.returns-clause-value
returns-clause-value c =
    let cut = number_cut_off c.args.text.now c.digits-number.result.1.now c.digits-number.result.0
    c.digits-number.ensures.value c.digits-number.ensures.number in
    search (rules, cut)
