-- The one command of `clap` that the words go through: an optional positional, and four options that take one text.
use Rattle.std.specs.Prelude.{true, None, Some, codes}
use Rattle.clap.specs.Walk.{Rule, Text}
use Rattle.clap.specs.Simple.{App, new_app, new_rule, on_top, with_rule}
use Rattle.clap.specs.declared.builder.action.ArgAction.TheVariants.{Set}
use Rattle.command_line.specs.Parts.{Name}
use Rattle.command_line.specs.Parts.{Name as name}
use Rattle.command_line.specs.Uses.{key_text}

abbrev pub mesh_given : Rule
mesh_given = record (new_rule (key_text None)) { action = Some Set }

abbrev pub named_given : Text → Rule
named_given text = record (new_rule text) { long = Some text; action = Some Set }

abbrev pub option_given : Name → Rule
option_given n = named_given (key_text (Some n))

abbrev pub no_arguments : App
no_arguments =
    on_top (λ s. record s { no_binary_name = true; disable_help_flag = true; disable_version_flag = true })
    (new_app (codes "cedarjack"))

abbrev pub one_command : App
one_command =
    let with_mesh = with_rule no_arguments mesh_given in
    let with_grid = with_rule with_mesh (option_given name.Grid) in
    let with_workers = with_rule with_grid (option_given name.Workers) in
    with_rule (with_rule with_workers (option_given name.Build)) (option_given name.Unit)
