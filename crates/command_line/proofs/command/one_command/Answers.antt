use Rattle.std.proofs.Common.{◌≡◌, ◌∙◌, ap, ap₂, rules, true}
use Rattle.std.proofs.lemmas.Result.{IfOk-weaker}
use Rattle.clap.specs.Words.{app_of, rule_of, with_rule}
use Rattle.clap.specs.Simple.{app_of_fields, on_top}
use Rattle.clap.specs.declared.builder.command.Command.{Command}
use Rattle.clap.specs.declared.builder.command.Command.TheOpen.{Command-F}
use Rattle.command_line.specs.Command.{mesh_given, no_arguments}
use Rattle.command_line.proofs.command.one_command.Goals as goal

pub returns : goal.returns
returns c =
    let mesh_is : rule_of c.action-mesh.result ≡ mesh_given = search rules in
    let with_version : Command-F Command → Command-F Command = λ f. record f { disable_version_flag = true } in
    let with_help : Command-F Command → Command-F Command = λ f. record f { disable_help_flag = true } in
    let start : app_of c.disable_version_flag.result ≡ no_arguments =
    ap app_of_fields (c.disable_version_flag.ensures ∙ ap with_version (c.disable_help_flag.ensures
    ∙ ap with_help c.no_binary_name.ensures))
    ∙ ap (on_top (λ s. record s { no_binary_name = true; disable_help_flag = true; disable_version_flag = true }))
    c.new-2.ensures.app in
    let with_mesh = c.in_ok-arg.ensures.shape (search rules) ∙ ap₂ with_rule start mesh_is in
    let with_grid = c.in_ok-arg-2.ensures.shape c.option.ensures.local
    ∙ ap₂ with_rule with_mesh c.option.ensures.rule in
    let with_workers = c.in_ok-arg-3.ensures.shape c.option-2.ensures.local
    ∙ ap₂ with_rule with_grid c.option-2.ensures.rule in
    let with_build = c.in_ok-arg-4.ensures.shape c.option-3.ensures.local
    ∙ ap₂ with_rule with_workers c.option-3.ensures.rule in
    IfOk-weaker c.arg-5.result _ _
    (λ r h. h.shape c.option-4.ensures.local ∙ ap₂ with_rule with_build c.option-4.ensures.rule) c.arg-5.ensures
