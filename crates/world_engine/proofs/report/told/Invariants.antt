use Rattle.std.proofs.Common.{map, take}
use Rattle.world_engine.specs.Steps.{stage_of}
use Rattle.world_engine.proofs.Telling.{Tells}
use Rattle.world_engine.proofs.report.told.Given as goal

abbrev pub invariant-loop-step : goal.invariant-loop-step
invariant-loop-step g l =
    Tells l.initial.world (map (stage_of l.pass l.moves) (take l.step-index l.steps)) l.world l.text.items
