use Rattle.std.proofs.Common.{◌≡◌, drop, false}
use Rattle.command_line.specs.Items.{texts_of}
use Rattle.command_line.specs.Uses.{mesh_from}
use Rattle.command_line.proofs.place.mesh_place.Given as goal

-- the place is that of the words that are left
abbrev pub invariant-loop-place : goal.invariant-loop-place
invariant-loop-place l =
    mesh_from false 0 (texts_of l.words) ≡ mesh_from l.is_value l.place (texts_of (drop l.place l.words))
