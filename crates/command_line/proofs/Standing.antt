-- Where clap stands between two words, and what it is that a word passes or fails there.
use Rattle.std.proofs.Common.{◌≡◌, ℕ, Bool, false, List, [], ◌∷◌, Option, None}
use Rattle.clap.specs.Walk.{Held, Text, Waiting, Walk}
use Rattle.clap.specs.Simple.{Shape, built}
use Rattle.clap.specs.Faults.{settle_fault, turn_fault}
use Rattle.clap.specs.Takes.{settle_passes, turn_passes}
use Rattle.command_line.specs.Command.{one_command}
use Rattle.command_line.specs.Uses.{Use, rows}
use Rattle.command_line.proofs.OneCommand.{rules_built}
use Rattle.command_line.proofs.FoundRows.{clear}

-- what clap sees of the command
abbrev pub top : Shape
top = (built one_command).top

-- the argument whose values are being read, with those that it has
abbrev pub Pending : Type 0
Pending = Option (Text × List Text)

-- uses that were found, and what is pending
abbrev pub holding : List Use → Pending → Held
holding uses pending = record { rows = rows uses; pending = pending; skip = 0 }

-- clap between two words
abbrev pub walk_at : Waiting → Held → ℕ → Walk
walk_at waiting held position =
    record { held = held; waiting = waiting; position = position; is_trailing = false; stopped = None }

-- clap between two words, with uses that were found
abbrev pub standing : Waiting → List Use → Pending → ℕ → Walk
standing waiting uses pending position = walk_at waiting (holding uses pending) position

-- the word `--`
abbrev pub dashes : Text
dashes = 45 ∷ 45 ∷ []

-- the word passes or fails, by both of clap's definitions
abbrev pub Turns : Walk → Text → Bool → Type 0
Turns walk word passed = (turn_passes top [] walk word ≡ passed) × (clear (turn_fault top [] walk word) ≡ passed)

-- what is pending passes or fails, by both of them
abbrev pub Settles : List Use → Pending → Bool → Type 0
Settles uses pending passed = (settle_passes rules_built false (holding uses pending) ≡ passed)
    × (clear (settle_fault rules_built false (holding uses pending)) ≡ passed)
