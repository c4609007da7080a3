-- What clap makes of all words for the one command, word by word: what is found, and whether there is no fault.
use Rattle.std.proofs.Common.{◌≡◌, ◌∙◌, ◌&&◌, Bool, true, false, if◌then◌else◌, List, ◌∷◌, [], Option, None, Some, is_some, refl, sym}
use Rattle.std.specs.Prelude.{fold}
use Rattle.clap.specs.Walk.{Held, Row, Text, Walk, settled, walked}
use Rattle.clap.specs.Kinds.{Kinds, or_else}
use Rattle.clap.specs.Faults.{settle_fault, turn_fault, walk_fault}
use Rattle.clap.specs.Takes.{settle_passes, turn_passes, walk_passes}
use Rattle.command_line.proofs.OneCommand.{rules_built}
use Rattle.command_line.proofs.FoundRows.{clear}
use Rattle.command_line.proofs.Standing.{Turns, top}

-- what is found where the words pass, and whether they have no fault, by both of clap's definitions
abbrev pub Verdict : Type 0
Verdict = Option (List Row) × Bool

-- where the definitions agree, it is what was found
abbrev pub verdict_of : Option (List Row) → Verdict
verdict_of found = (found, is_some found)

-- the verdict at the end of a walk
abbrev pub ended : Bool → Kinds → Held → Verdict
ended passes fault end = (
  if passes && settle_passes rules_built false end then Some (settled rules_built end).rows else None,
  clear fault && clear (settle_fault rules_built false end),
)

-- the verdict on words from where a walk stands
abbrev pub run : Walk → List Text → Verdict
run walk words =
    ended (walk_passes top [] walk words) (walk_fault top [] walk words) (fold (walked rules_built []) walk words).held

-- the verdict of a word and those behind it, by the word's own
parted : (first passes settles clears : Bool) (rows : Option (List Row)) (fault rest : Kinds) → clear fault ≡ first
    → (let whole : Verdict = (if (first && passes) && settles then rows else None, clear (or_else fault rest) && clears)
    in whole) ≡ (if first then (if passes && settles then rows else None, clear rest && clears) else verdict_of None)
parted true passes settles clears rows [] rest known = refl
parted false passes settles clears rows (one ∷ faults) rest known = refl
parted _ passes settles clears rows fault rest known = absurd cc

-- a word that passes leaves the verdict to those behind it
pub run_step : (walk after : Walk) (word : Text) (words : List Text) (passed : Bool) → Turns walk word passed
    → walked rules_built [] walk word ≡ after
    → run walk (word ∷ words) ≡ (if passed then run after words else verdict_of None)
unfolding walk_passes walk_fault
run_step walk after word words passed turn stands = rw (← turn.0, ← stands) (parted (turn_passes top [] walk word)
    (walk_passes top [] (walked rules_built [] walk word) words)
    (settle_passes rules_built false (fold (walked rules_built []) (walked rules_built [] walk word) words).held)
    (clear (settle_fault rules_built false
    (fold (walked rules_built []) (walked rules_built [] walk word) words).held)) _
    (turn_fault top [] walk word) (walk_fault top [] (walked rules_built [] walk word) words) (turn.1 ∙ sym turn.0))

-- one that fails decides
pub run_fails : (walk : Walk) (word : Text) (words : List Text) → Turns walk word false
    → run walk (word ∷ words) ≡ verdict_of None
run_fails walk word words turn = run_step walk (walked rules_built [] walk word) word words false turn refl
