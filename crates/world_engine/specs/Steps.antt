-- The steps that a report is made in, as the stages of its text.
use Rattle.std.specs.Prelude.{List, [], ◌∷◌}
use Rattle.query_script.specs.declared.asks.Ask.{Ask}
use Rattle.query_script.specs.declared.asks.Ask.TheVariants as ask
use Rattle.world_engine.specs.declared.steps.Step.{Step}
use Rattle.world_engine.specs.declared.steps.Step.TheVariants as step
use Rattle.world_engine.specs.Sums.{sums_of, sums_text}
use Rattle.world_engine.specs.Reports.{Stage, stat_stage, silent_stage}

-- what a step asks, with these asks for a pass and for the moves, and what is told of it
abbrev pub stage_of : List Ask → List Ask → Step → Stage
stage_of pass moves step.Counts = stat_stage
stage_of pass moves step.Pass = record { asks = pass; text = λ replies. sums_text (sums_of replies) }
stage_of pass moves step.Moves = silent_stage moves
stage_of pass moves step.Rebuild = silent_stage (ask.Rebuild ∷ [])
