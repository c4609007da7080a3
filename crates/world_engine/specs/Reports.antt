-- What the large workload writes: the texts of stages, each of which asks one world in turn.
use Rattle.std.specs.Prelude.{ℕ, List, [], ◌∷◌, ◌++◌}
use Rattle.std.specs.List.{flat_map}
use Rattle.obj_text.specs.HeightFields.{field_mesh}
use Rattle.query_script.specs.declared.asks.Ask.{Ask}
use Rattle.query_script.specs.declared.asks.Ask.TheVariants.{Rebuild, Stat}
use Rattle.query_script.specs.declared.replies.Reply.{Reply}
use Rattle.query_script.specs.Replies.{reply_text}
use Rattle.world_index.specs.Worlds.{WorldState, world_of, reply_to, state_after}
use Rattle.world_engine.specs.Workload.{pass_asks, move_asks}
use Rattle.world_engine.specs.Sums.{sums_of, sums_text}

-- the replies to asks, each in the world that those before it left
abbrev pub replies_to : WorldState → List Ask → List Reply
replies_to world [] = []
replies_to world (ask ∷ asks) = reply_to world ask ∷ replies_to (state_after world ask) asks

-- the world after asks
abbrev pub world_after : WorldState → List Ask → WorldState
world_after world [] = world
world_after world (ask ∷ asks) = world_after (state_after world ask) asks

-- asks in turn, and what is written of their replies
pub record Stage : Type 0 where
  pub asks : List Ask
  pub text : List Reply → List ℕ

-- what stages write, each in the world that those before it left
abbrev pub text_of : WorldState → List Stage → List ℕ
text_of world [] = []
text_of world (stage ∷ stages) =
    stage.text (replies_to world stage.asks) ++ text_of (world_after world stage.asks) stages

-- the counts of the world, told as to a script; the number of a line is in no such text
abbrev pub stat_stage : Stage
stat_stage = record { asks = Stat ∷ []; text = flat_map (reply_text 1) }

-- one pass, in one line
abbrev pub pass_stage : ℕ → Stage
pass_stage side = record { asks = pass_asks side; text = λ replies. sums_text (sums_of replies) }

-- asks of whose replies nothing is written
abbrev pub silent_stage : List Ask → Stage
silent_stage asks = record { asks = asks; text = λ replies. [] }

-- the report over a field of so many squares along each side: counts and one pass; one more behind the moves; and both
-- again behind a build
unfoldable pub report_of : ℕ → List ℕ
report_of side = text_of (world_of (field_mesh side))
    (stat_stage ∷ pass_stage side
    ∷ silent_stage (move_asks side) ∷ pass_stage side
    ∷ silent_stage (Rebuild ∷ []) ∷ stat_stage ∷ pass_stage side ∷ [])
