-- How the desk of a run answers a line. No public clause cites this module.
use Rattle.std.specs.Prelude.{ℕ, List, ◌||◌}
use Rattle.query_script.specs.Asks.{ask_of}
use Rattle.query_script.specs.Replies.{reply_text, is_refused}
use Rattle.world_engine.specs.declared.desk.Desk.{Desk}
use Rattle.world_index.specs.Worlds.{reply_of, after}

-- the text of the reply to the line of this number
abbrev pub desk_text : Desk → ℕ → List ℕ → List ℕ
desk_text desk number line = reply_text number (reply_of desk.world (ask_of desk.unit line))

-- the desk after the line
abbrev pub desk_after : Desk → List ℕ → Desk
desk_after desk line = record {
  world = after desk.world (ask_of desk.unit line);
  unit = desk.unit;
  refused = desk.refused || is_refused (reply_of desk.world (ask_of desk.unit line));
}
