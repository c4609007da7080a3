use Rattle.std.proofs.Common.{◌∙◌}
use Rattle.std.specs.Prelude.{codes}
use Rattle.clap.specs.Words.{found_of}
use Rattle.command_line.proofs.RowValues.{same_texts, value_row}
use Rattle.command_line.proofs.given.row_plan.Goals as goal

pub returns : goal.returns
returns c =
    let found = found_of c.args.matches.now in
    c.plan_from.ensures ∙ same_texts c.args.place (c.get_str.ensures ∙ value_row found (codes "mesh"))
    (c.get_str-2.ensures ∙ value_row found (codes "grid")) (c.get_str-3.ensures ∙ value_row found (codes "workers"))
    (c.get_str-4.ensures ∙ value_row found (codes "build")) (c.get_str-5.ensures ∙ value_row found (codes "unit"))
