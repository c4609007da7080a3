use Rattle.std.proofs.Common.{map, take, get_or, subst, sym, refl}
use Rattle.world_engine.specs.declared.steps.Step.TheVariants.{Counts}
use Rattle.world_engine.specs.Steps.{stage_of}
use Rattle.world_engine.proofs.Telling.{Tells, tells_none, tells_more, map_more}
use Rattle.world_engine.proofs.report.told.Goals as goal

pub loop-step-init : goal.loop-step-init
loop-step-init g c = tells_none _ _ _ refl c.new-text.ensures.items

pub loop-step-preserved : goal.loop-step-preserved
loop-step-preserved g c =
    let stage = stage_of c.args.pass.now c.args.moves.now in
    let steps = c.args.steps.now in
    let at = c.loop-step.step-index in
    subst (λ stages. Tells c.args.world.now stages c.add_step.new.world c.add_step.new.text.items)
    (sym (map_more stage steps at Counts c.loop-step-test.true))
    (tells_more c.args.world.now (map stage (take at steps)) (stage (get_or steps at Counts)) c.loop-step.world
    c.add_step.new.world c.loop-step.text.items c.add_step.new.text.items c.loop-step.invariant
    c.in_ok-add_step.ensures.world c.in_ok-add_step.ensures.text)
