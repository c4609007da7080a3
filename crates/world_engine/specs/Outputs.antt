-- The defined output: what a run writes and how it ends, from its words, the files and the script.
use Rattle.std.specs.Prelude.{ℕ, ◌+◌, ◌++◌, Bool, List, [], ◌∷◌, Option, None, Some, nat_lt, take, length, codes, if◌then◌else◌, Result, Ok, Err}
use Rattle.std.specs.List.{list_any}
use Rattle.std.specs.FinMap.{get}
use Rattle.outside.specs.Files.{Files}
use Rattle.text_words.specs.Lines.{lines_of, ended_lines}
use Rattle.obj_text.specs.Meshes.{MeshLists}
use Rattle.obj_text.specs.Texts.{mesh_of, FaultyLine}
use Rattle.obj_text.specs.declared.limits.TheConstants.{MOST_BYTES}
use Rattle.world_engine.specs.declared.status.Status.{Status}
use Rattle.world_engine.specs.declared.status.Status.TheVariants.{Done, Usage, MeshRefused, ReadFault, LinesRefused}
use Rattle.world_engine.specs.declared.limits.TheConstants.{SCRIPT_MOST}
use Rattle.query_script.specs.declared.replies.Reply.{Reply}
use Rattle.query_script.specs.Asks.{ask_of}
use Rattle.query_script.specs.Replies.{reply_text, is_refused}
use Rattle.world_engine.specs.Words.{Opening, opening_of, grid_of}
use Rattle.world_engine.specs.Reports.{report_of}
use Rattle.world_index.specs.Worlds.{WorldState, world_of, reply_of, after}
use Rattle.world_engine.specs.Refusals.{refusal_text}

-- what is written, and the status
pub record Output : Type 0 where
  pub text : List ℕ
  pub status : Status

abbrev pub says : List ℕ → Status → Output
says text status = record { text = text; status = status }

-- the replies to lines, each in the world that the lines before left
abbrev pub replies_of : ℕ → WorldState → List (List ℕ) → List Reply
replies_of unit world [] = []
replies_of unit world (line ∷ lines) = reply_of world (ask_of unit line) ∷ replies_of unit (after world (ask_of unit line)) lines

-- the texts of replies to lines numbered from one on
abbrev pub texts_from : ℕ → List Reply → List ℕ
texts_from number [] = []
texts_from number (reply ∷ replies) = reply_text number reply ++ texts_from (number + 1) replies

-- the status of a script that was answered, by whether some line was refused
abbrev pub status_of : Bool → Status
status_of refused = if refused then LinesRefused else Done

-- the replies to the lines of a whole script
abbrev pub whole_output : List Reply → Output
whole_output replies = says (texts_from 1 replies) (status_of (list_any is_refused replies))

-- the replies to the lines that ended within the limit, and word that there is more
abbrev pub cut_output : List Reply → Output
cut_output replies = says (texts_from 1 replies ++ codes "script too long\n") LinesRefused

-- a script's output in a world
abbrev pub script_output : ℕ → WorldState → List ℕ → Output
script_output unit world script =
    if nat_lt SCRIPT_MOST (length script) then cut_output (replies_of unit world (ended_lines (take SCRIPT_MOST script))) else whole_output (replies_of unit world (lines_of script))

-- the output over a text that is read as a mesh or refused at a line, as far as the script is told
abbrev pub mesh_output : ℕ → Result MeshLists FaultyLine → Option (List ℕ) → Option Output
mesh_output unit (Err fault) script = Some (says (refusal_text fault) MeshRefused)
mesh_output unit (Ok mesh) None = None
mesh_output unit (Ok mesh) (Some script) = Some (script_output unit (world_of mesh) script)

-- the output over a mesh file, which may be none
abbrev pub file_output : ℕ → Option (List ℕ) → Option (List ℕ) → Option Output
file_output unit None script = Some (says [] ReadFault)
file_output unit (Some file) script =
    if nat_lt MOST_BYTES (length file) then Some (says (codes "mesh too long\n") MeshRefused) else mesh_output unit (mesh_of unit file) script

-- the output where a mesh file is opened, or none
abbrev pub opening_output : Option Opening → Option Files → Option (List ℕ) → Option Output
opening_output None files script = Some (says (codes "bad command line\n") Usage)
opening_output (Some opening) None script = None
opening_output (Some opening) (Some files) script = file_output opening.unit (get files opening.name) script

-- the output where the large workload is asked for, or not
abbrev pub words_output : Option ℕ → Option Opening → Option Files → Option (List ℕ) → Option Output
words_output (Some side) opening files script = Some (says (report_of side) Done)
words_output None opening files script = opening_output opening files script

-- the output of words, files and a script, as far as what it depends on is told
abbrev pub output_of : List (List ℕ) → Option Files → Option (List ℕ) → Option Output
output_of words files script = words_output (grid_of words) (opening_of words) files script
