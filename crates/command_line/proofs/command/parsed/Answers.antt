use Rattle.std.proofs.Common.{◌≡◌, ◌∙◌, ap, sym, [], Some}
use Rattle.clap.specs.Words.{App, fault_of, found_of, is_simple, is_simple_and_free, matches_of, rows_of, takes}
use Rattle.command_line.specs.Command.{one_command}
use Rattle.command_line.specs.Items.{texts_of}
use Rattle.command_line.proofs.OneCommand.{simple, simple_and_free}
use Rattle.command_line.proofs.OneParse.{found_is, matches_are, unfound}
use Rattle.command_line.proofs.Dashes.{found_plan, unfound_refused}
use Rattle.command_line.proofs.command.parsed.Goals as goal

pub returns-in-Ok-clause-plan : goal.returns-in-Ok-clause-plan
returns-in-Ok-clause-plan c =
    let words = texts_of c.args.words.now in
    let is = c.in_ok-command.ensures in
    let fault : fault_of one_command words ≡ [] =
    ap (λ (a : App). fault_of a words) (sym is)
    ∙ c.in-Ok.ensures.kinds (ap is_simple_and_free is ∙ simple_and_free) in
    let rows : rows_of (found_of c.in-Ok.matches) ≡ matches_of one_command words =
    (c.in-Ok.ensures.matches (ap is_simple is ∙ simple)).0 ∙ ap (λ (a : App). matches_of a words) is in
    found_plan words _ c.requires (matches_are words c.requires (found_is words c.requires fault) ∙ ap Some (sym rows))

pub returns : goal.returns
returns c =
    let words = texts_of c.args.words.now in
    let is = c.in_ok-command.ensures in
    record {
      plan = tt;
      usage = λ _. unfound_refused words c.requires (unfound words c.requires (λ taken.
          let memory = c.in-Err.ensures.passes (ap (λ (a : App). takes a words) is ∙ taken) in
          c.in_default.not-OutOfMemory (c.kind-kind.ensures ∙ memory)));
    }
