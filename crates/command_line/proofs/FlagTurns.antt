-- The turn of a word that begins with `--` and more: which pass, and where clap stands behind those.
use Rattle.std.proofs.Common.{◌≡◌, ◌∙◌, ap, ℕ, not, Bool, true, false, List, [], ◌∷◌, ◌++◌, Option, None, Some, refl}
use Rattle.std.specs.Str.{bytes_eq}
use Rattle.std.proofs.Math.Bool.{and-true}
use Rattle.std.proofs.lemmas.Bool.{and_left}
use Rattle.clap.specs.Lexer.{long_of}
use Rattle.clap.specs.Walk.{Held, Outcome, Row, Text, Waiting, after_flag, idle, long_met, option, settled, walked}
use Rattle.clap.specs.Faults.{long_fault, turn_fault}
use Rattle.clap.specs.Takes.{long_passes, turn_passes}
use Rattle.command_line.specs.Parts.{Name}
use Rattle.command_line.specs.Uses.{key_text, Use, rows, seen}
use Rattle.command_line.specs.Values.{name_of}
use Rattle.command_line.proofs.OneCommand.{rule_at, rule_named, rules_built, named_rule}
use Rattle.command_line.proofs.FoundRows.{clear, use_once, used_absent}
use Rattle.command_line.proofs.Standing.{Pending, Settles, Turns, dashes, holding, standing, top, walk_at}
use Rattle.command_line.proofs.FaultLists.{clear_last, no_kinds, or_clear}
use Rattle.command_line.proofs.WordRead.{IsRead, none_named, turn_faults, turn_passed, walked_of}

module _ (waiting : Waiting) (uses : List Use) (pending : Pending) (position : ℕ) (word : Text)
    (plain : bytes_eq word dashes ≡ false) where
  -- a word that begins with `--` and more is read by the name in it
  long_read : (spelled : Text) (value : Option Text) (reading : Option Name) → long_of word ≡ Some (spelled, value)
      → name_of spelled ≡ reading → IsRead waiting uses pending position word
      (let met : Held × Outcome = long_met rules_built (rule_named reading) value (holding uses pending) in
      after_flag rules_built waiting word met.0 met.1)
      (long_passes rules_built false (rule_named reading) value (holding uses pending))
      (long_fault rules_built false (rule_named reading) value (holding uses pending))
  long_read spelled value reading long names = record {
    met_is = rw (none_named waiting word, plain, long, named_rule spelled reading names) refl;
    passes_is = rw (none_named waiting word, plain, long, named_rule spelled reading names) refl;
    fault_is = rw (none_named waiting word, plain, long, named_rule spelled reading names) refl;
  }

  -- an unknown name fails
  pub unknown_turn : (spelled : Text) (value : Option Text) → long_of word ≡ Some (spelled, value)
      → name_of spelled ≡ None → Turns (standing waiting uses pending position) word false
  unknown_turn spelled value long names =
      let read = long_read spelled value None long names in (turn_passed read, ap clear (turn_faults read))

  -- a known name passes where its use does
  known_turn : (spelled : Text) (value : Option Text) (name : Name) → long_of word ≡ Some (spelled, value)
      → name_of spelled ≡ Some name
      → (turn_passes top [] (standing waiting uses pending position) word
      ≡ long_passes rules_built false (Some (rule_at (Some name))) value (holding uses pending))
      × (clear (turn_fault top [] (standing waiting uses pending position) word)
      ≡ clear (long_fault rules_built false (Some (rule_at (Some name))) value (holding uses pending)))
  known_turn spelled None name long names =
      let read = long_read spelled None (Some name) long names in
      (turn_passed read ∙ and-true _, ap clear (turn_faults read) ∙ clear_last _)
  known_turn spelled (Some value) name long names =
      let read = long_read spelled (Some value) (Some name) long names in
      (turn_passed read ∙ and-true _, ap clear (turn_faults read) ∙ clear_last _)

  -- a name alone passes where what is pending does
  pub front_turn : (spelled : Text) (name : Name) (passed : Bool) → long_of word ≡ Some (spelled, None)
      → name_of spelled ≡ Some name → Settles uses pending passed
      → Turns (standing waiting uses pending position) word passed
  front_turn spelled name passed long names settles =
      let turn = known_turn spelled None name long names in (turn.0 ∙ settles.0, turn.1 ∙ settles.1)

  -- a known name fails where what is pending does
  pub known_refused : (spelled : Text) (value : Option Text) (name : Name) → long_of word ≡ Some (spelled, value)
      → name_of spelled ≡ Some name → Settles uses pending false
      → Turns (standing waiting uses pending position) word false
  known_refused spelled None name long names settles = front_turn spelled name false long names settles
  known_refused spelled (Some value) name long names settles =
      let turn = known_turn spelled (Some value) name long names in
      (turn.0 ∙ and_left _ _ settles.0, turn.1 ∙ or_clear _ _ settles.1)

  module _ (to : List Use) (rows_are : (settled rules_built (holding uses pending)).rows ≡ rows to) where
    -- a name with its value passes where the option was not seen
    pub value_turn : (spelled : Text) (name : Name) (value : Text) → long_of word ≡ Some (spelled, Some value)
        → name_of spelled ≡ Some name → Settles uses pending true
        → Turns (standing waiting uses pending position) word (not (seen (Some name) to))
    value_turn spelled name value long names settles =
        let turn = known_turn spelled (Some value) name long names in (
          turn.0 ∙ rw (settles.0, rows_are) (use_once (Some name) value to).0,
          turn.1 ∙ rw (no_kinds _ settles.1, rows_are) (use_once (Some name) value to).1,
        )

    -- and then its value is found
    pub value_walked : (spelled : Text) (name : Name) (value : Text) → long_of word ≡ Some (spelled, Some value)
        → name_of spelled ≡ Some name → seen (Some name) to ≡ false
        → walked rules_built [] (standing waiting uses pending position) word
        ≡ standing idle (to ++ (Some name, value) ∷ []) None position
    value_walked spelled name value long names new = walked_of (long_read spelled (Some value) (Some name) long names)
        ∙ rw rows_are
        (ap (λ (found : List Row). walk_at idle (record { rows = found; pending = None; skip = 0 }) position)
        (used_absent (Some name) value to new))

    -- behind a name alone its value is awaited
    pub front_walked : (spelled : Text) (name : Name) → long_of word ≡ Some (spelled, None)
        → name_of spelled ≡ Some name → walked rules_built [] (standing waiting uses pending position) word
        ≡ standing (option (key_text (Some name))) to (Some (key_text (Some name), [])) position
    front_walked spelled name long names = walked_of (long_read spelled None (Some name) long names) ∙ rw rows_are refl
