use Rattle.std.proofs.Common.{Err, ap, rules, sym, ◌∙◌}
use Rattle.streams.proofs.Prompt.{prompt_cut}
use Rattle.world_engine.specs.Outputs.{status_of}
use Rattle.world_engine.specs.Desks.{desk_text, desk_after}
use Rattle.world_engine.specs.declared.limits.TheConstants.{SCRIPT_MOST}
use Rattle.world_engine.proofs.DeskAnswers.{new_desk, script_stops, script_ends, script_cut, taken_replies, prompt_replies}
use Rattle.world_engine.proofs.Ends.{whole_is_within, too_long_is_past, no_read_fault, no_write_fault}
use Rattle.world_engine.proofs.StageEnds.{script_ended}
use Rattle.world_engine.proofs.stages.answer_script.Goals as goal

pub returns-in-Whole : goal.returns-in-Whole
returns-in-Whole g c =
    let did = c.in-Ok.ensures in
    let unit = c.args.unit in
    let world = c.args.world in
    script_ended unit world _ _ _ _ _ _ _ _ _
    (script_ends unit world _ _ _ c.in-Ok.done.answerer _
    (c.status_of.ensures ∙ ap status_of c.has_refused.ensures) did.text did.state
    (whole_is_within _ c.in-Ok.done.ended SCRIPT_MOST c.in-Whole.is did.ended))
    (search rules) (search rules) (λ status. absurd (no_read_fault _ (sym c.status_of.ensures ∙ status)))
    (λ status. absurd (no_write_fault _ (sym c.status_of.ensures ∙ status)))
    (search rules) (search rules) (search rules)

pub returns-in-Ok : goal.returns-in-Ok
returns-in-Ok g c =
    let did = c.in-Ok.ensures in
    let unit = c.args.unit in
    let world = c.args.world in
    let long = too_long_is_past _ c.in-Ok.done.ended SCRIPT_MOST c.in-TooLong.is did.ended in
    script_ended unit world _ _ _ _ _ _ _ _ _ (script_cut unit world _ _ _ _ _ did.text long c.say.ensures.output)
    (search rules) (search rules) (search rules)
    (λ status. prompt_replies unit world _ _ _ _
    (prompt_cut desk_text desk_after (new_desk world unit) _ _ _ _ _ SCRIPT_MOST _ did.taken long did.text
    c.say.ensures.output.front))
    (search rules) (search rules) (search rules)

pub returns-in-Err-Read : goal.returns-in-Err-Read
returns-in-Err-Read g c =
    let unit = c.args.unit in
    let world = c.args.world in
    let stopped = c.in-Err-Read.ensures in
    script_ended unit world _ _ _ _ _ _ _ _ _ (script_stops unit world _ _ _ _ (λ w. w) stopped.front)
    (search rules) (search rules)
    (λ status. taken_replies unit world _ _ _ _ (stopped.partial (ap Err c.in-Err-Read.field-0-is)))
    (search rules) (search rules) (search rules) (search rules)

pub returns-in-Err-Write : goal.returns-in-Err-Write
returns-in-Err-Write g c =
    let unit = c.args.unit in
    let world = c.args.world in
    let stopped = c.in-Err-Write.ensures in
    script_ended unit world _ _ _ _ _ _ _ _ _ (script_stops unit world _ _ _ _ (λ w. w) stopped.front)
    (search rules) (search rules) (search rules)
    (λ status. prompt_replies unit world _ _ _ _ (stopped.prompt (ap Err c.in-Err-Write.field-0-is)))
    (search rules) (search rules) (search rules)

pub returns : goal.returns
returns g c =
    let unit = c.args.unit in
    let world = c.args.world in
    script_ended unit world _ _ _ _ _ _ _ _ _
    (script_stops unit world _ _ _ _ (λ w. w) c.in-Err-Memory.ensures.front)
    (search rules) (search rules) (search rules) (search rules) (search rules) (search rules) (search rules)
