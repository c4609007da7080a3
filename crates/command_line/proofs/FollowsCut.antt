-- What is shown of words: wherever clap stands, its verdict on them is that of their cut.
use Rattle.std.proofs.Common.{◌≡◌, true, List, [], Option, None, Some}
use Rattle.std.specs.Prelude.{⊤}
use Rattle.clap.specs.Walk.{Text, Walk, idle, option, settled}
use Rattle.command_line.specs.Parts.{Name}
use Rattle.command_line.specs.Uses.{key_text, Use, rows, cut, ends}
use Rattle.command_line.proofs.OneCommand.{rules_built}
use Rattle.command_line.proofs.OneWalk.{run, verdict_of}
use Rattle.command_line.proofs.Standing.{Pending, Settles, holding, standing}
use Rattle.command_line.proofs.Places.{place}

-- what is pending passes, and with it these uses are found
pub record IsReady (uses to : List Use) (pending : Pending) : Type 0 where
  pub settles : Settles uses pending true
  pub rows_are : (settled rules_built (holding uses pending)).rows ≡ rows to

-- nothing has to hold where an option awaits its value
abbrev pub Ready : Option Name → List Use → List Use → Pending → Type 0
Ready None uses to pending = IsReady uses to pending
Ready (Some name) uses to pending = ⊤

-- clap between two words, where these uses are found with what is pending, and an option may await its value
abbrev pub start : Option Name → List Use → List Use → Pending → Walk
start None uses to pending = standing idle uses pending (place to)
start (Some name) uses to pending =
    standing (option (key_text (Some name))) to (Some (key_text (Some name), [])) (place to)

-- what clap makes of these words is what their cut says, wherever it stands
abbrev pub FollowsCut : List Text → Type 0
FollowsCut words = (waiting : Option Name) (uses to : List Use) (pending : Pending) → Ready waiting uses to pending
    → run (start waiting uses to pending) words ≡ verdict_of (ends to (cut waiting words))
