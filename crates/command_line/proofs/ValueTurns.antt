-- The turn of a word that is no flag: the MESH word, a second one, and the value that an option awaits.
use Rattle.std.proofs.Common.{◌≡◌, ◌∙◌, ap, ℕ, Bool, true, false, List, [], ◌∷◌, None, Some, refl}
use Rattle.std.specs.Str.{bytes_eq}
use Rattle.std.proofs.lemmas.Bool.{and_right}
use Rattle.std.proofs.lemmas.Slice.Eq.{bytes_eq-Decides}
use Rattle.clap.specs.Lexer.{long_of}
use Rattle.clap.specs.Walk.{Text, idle, is_pending, option, settled, walked}
use Rattle.command_line.specs.Parts.{Name}
use Rattle.command_line.specs.Uses.{key_text, Use, rows, is_stray}
use Rattle.command_line.proofs.OneCommand.{rule_at, rules_built, by_id}
use Rattle.command_line.proofs.FoundRows.{clear}
use Rattle.command_line.proofs.Standing.{Pending, Settles, Turns, dashes, holding, standing}
use Rattle.command_line.proofs.WordRead.{turn_faults, turn_passed, walked_of}
use Rattle.command_line.proofs.PlainRead.{plain_read}

module _ (uses : List Use) (pending : Pending) (word : Text) (plain : bytes_eq word dashes ≡ false)
    (long : long_of word ≡ None) (stray : is_stray word ≡ false) where
  -- the first is the MESH word, and passes where what is pending does
  pub mesh_turn : (passed : Bool) → Settles uses pending passed → Turns (standing idle uses pending 1) word passed
  mesh_turn passed settles =
      let read = plain_read idle uses pending 1 word plain long stray in
      let alone = and_right (is_pending (rule_at None) pending) false refl in
      (turn_passed read ∙ rw alone settles.0, ap clear (turn_faults read) ∙ rw alone settles.1)

  -- behind it the MESH word is pending
  pub mesh_walked : (to : List Use) → (settled rules_built (holding uses pending)).rows ≡ rows to
      → walked rules_built [] (standing idle uses pending 1) word ≡ standing idle to (Some (key_text None, word ∷ [])) 2
  mesh_walked to rows_are = walked_of (plain_read idle uses pending 1 word plain long stray)
      ∙ rw (and_right (is_pending (rule_at None) pending) false refl, rows_are) refl

  -- a second one fails
  pub second_turn : Turns (standing idle uses pending 2) word false
  second_turn =
      let read = plain_read idle uses pending 2 word plain long stray in
      (turn_passed read, ap clear (turn_faults read))

  -- one that an option awaits passes
  pub taken_turn : (name : Name) (position : ℕ)
      → Turns (standing (option (key_text (Some name))) uses (Some (key_text (Some name), [])) position) word true
  taken_turn name position =
      let awaits = option (key_text (Some name)) in
      let due : Pending = Some (key_text (Some name), []) in
      let read = plain_read awaits uses due position word plain long stray in
      (turn_passed read, ap clear (turn_faults read))

  -- behind it the option is pending with its value
  pub taken_walked : (name : Name) (position : ℕ)
      → walked rules_built []
      (standing (option (key_text (Some name))) uses (Some (key_text (Some name), [])) position) word
      ≡ standing idle uses (Some (key_text (Some name), word ∷ [])) position
  taken_walked name position =
      let awaits = option (key_text (Some name)) in
      let due : Pending = Some (key_text (Some name), []) in
      let key = key_text (Some name) in
      let same : bytes_eq key key ≡ true = (bytes_eq-Decides key key).1 refl in
      walked_of (plain_read awaits uses due position word plain long stray)
      ∙ rw (by_id (Some name), same) refl
