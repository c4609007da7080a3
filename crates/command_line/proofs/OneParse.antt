-- A parse by the one command takes the words just where something is found, and finds just that.
use Rattle.std.proofs.Common.{◌≡◌, ◌∙◌, ap, ◌&&◌, Bool, true, false, if◌then◌else◌, List, [], Option, None, Some, is_some, refl, sym, codes}
use Rattle.clap.specs.Walk.{Held, Row, Text, finished, has_row, idle, nothing_held, settled, walk}
use Rattle.clap.specs.Takes.{takes, settle_passes, walk_passes}
use Rattle.clap.specs.Kinds.{or_else}
use Rattle.clap.specs.Faults.{fault_of, settle_fault, walk_fault}
use Rattle.clap.specs.Simple.{built, matches_of}
use Rattle.clap.proofs.TakesLemmas.{leaf_takes}
use Rattle.clap.proofs.FaultLemmas.{leaf_fault}
use Rattle.command_line.specs.Command.{one_command}
use Rattle.command_line.specs.Uses.{found, has_dashes}
use Rattle.command_line.proofs.Options.{both_hold}
use Rattle.command_line.proofs.OneCommand.{rules_built}
use Rattle.command_line.proofs.FoundRows.{clear}
use Rattle.command_line.proofs.FaultLists.{none_before}
use Rattle.command_line.proofs.Standing.{standing, top}
use Rattle.command_line.proofs.OneWalk.{Verdict}
use Rattle.command_line.proofs.OneRun.{run_is}

-- no argument has a default
no_defaults : (held : Held) → finished rules_built held ≡ (settled rules_built held).rows
no_defaults held =
    let found_rows = (settled rules_built held).rows in
    rw (
      same found_rows (has_row (codes "mesh") found_rows),
      same found_rows (has_row (codes "grid") found_rows),
      same found_rows (has_row (codes "workers") found_rows),
      same found_rows (has_row (codes "build") found_rows),
      same found_rows (has_row (codes "unit") found_rows),
    )
    refl
  where
    same : (found_rows : List Row) (is_there : Bool) → (if is_there then found_rows else found_rows) ≡ found_rows
    same found_rows true = refl
    same found_rows false = refl

module _ (words : List Text) (undashed : has_dashes words ≡ false) where
  -- what clap holds behind the last word
  abbrev the_end : Held
  the_end = (walk rules_built [] nothing_held words).held

  -- where something is found, all words and what is pending pass
  passes : is_some (found words) ≡ true → (walk_passes top [] (standing idle [] None 1) words ≡ true)
      × (settle_passes rules_built false the_end ≡ true) × (found words ≡ Some (settled rules_built the_end).rows)
  passes is = both_hold _ _ _ _ (ap (λ (verdict : Verdict). verdict.0) (run_is words undashed)) is

  -- so the words are taken
  takes_is : is_some (found words) ≡ true → takes one_command words ≡ true
  takes_is is =
      let both = passes is in leaf_takes (built one_command) nothing_held words refl (rw (both.0, both.1) refl)

  -- and it is what the parse finds
  pub matches_are : is_some (found words) ≡ true → found words ≡ Some (matches_of one_command words)
  matches_are is = (passes is).2 ∙ ap Some (sym (no_defaults the_end))

  -- words without a fault have something found
  pub found_is : fault_of one_command words ≡ [] → is_some (found words) ≡ true
  found_is none =
      let of_walk = walk_fault top [] (standing idle [] None 1) words in
      let of_end = settle_fault rules_built false the_end in
      let level : or_else of_walk (or_else [] (or_else of_end _)) ≡ [] =
      sym (leaf_fault (built one_command) nothing_held words refl) ∙ none in
      let first = none_before of_walk _ level in
      let last = none_before of_end _ first.1 in
      let clean : (clear of_walk && clear of_end) ≡ true =
      ap (λ faults. clear faults && clear of_end) first.0 ∙ ap clear last.0 in
      sym (ap (λ (verdict : Verdict). verdict.1) (run_is words undashed)) ∙ clean

  -- words that are not taken have none
  pub unfound : (takes one_command words ≡ true → ⊥) → found words ≡ None
  unfound refused = go (found words) refl
    where
      go : (answer : Option (List Row)) → found words ≡ answer → answer ≡ None
      go None known = refl
      go (Some found_rows) known = absurd (refused (takes_is (ap is_some known)))
