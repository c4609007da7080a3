-- Lists of faults, of which only the empty one is clear.
use Rattle.std.proofs.Common.{◌≡◌, true, false, [], ◌∷◌, refl}
use Rattle.clap.specs.Kinds.{Kinds, or_else}
use Rattle.command_line.proofs.FoundRows.{clear}

-- a list without a fault is empty
pub no_kinds : (faults : Kinds) → clear faults ≡ true → faults ≡ []
no_kinds [] is_clear = refl
no_kinds (fault ∷ faults) is_clear = absurd cc

-- a fault stays one where others follow
pub or_clear : (faults later : Kinds) → clear faults ≡ false → clear (or_else faults later) ≡ false
or_clear [] later is_clear = absurd cc
or_clear (fault ∷ faults) later is_clear = refl

-- an empty list behind changes nothing
pub clear_last : (faults : Kinds) → clear (or_else faults []) ≡ clear faults
clear_last [] = refl
clear_last (fault ∷ faults) = refl

-- of two lists of faults that make an empty one, both are
pub none_before : (earlier later : Kinds) → or_else earlier later ≡ [] → (earlier ≡ []) × (later ≡ [])
none_before [] later empty = (refl, empty)
none_before (fault ∷ faults) later empty = absurd cc
