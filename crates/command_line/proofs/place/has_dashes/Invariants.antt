use Rattle.std.proofs.Common.{◌≡◌, drop}
use Rattle.command_line.specs.Items.{texts_of}
use Rattle.command_line.specs.Uses.{has_dashes}
use Rattle.command_line.proofs.place.has_dashes.Given as goal

-- what is left decides
abbrev pub invariant-loop-word : goal.invariant-loop-word
invariant-loop-word l = has_dashes (texts_of l.words) ≡ has_dashes (texts_of (drop l.word-index l.words))
