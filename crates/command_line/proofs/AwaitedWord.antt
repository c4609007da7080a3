-- One word more where an option awaits its value.
use Rattle.std.proofs.Common.{◌≡◌, ◌∙◌, ap, Bool, true, false, if◌then◌else◌, List, [], ◌∷◌, Option, None, Some, refl, sym}
use Rattle.std.specs.Prelude.{option_map}
use Rattle.std.specs.Str.{bytes_eq}
use Rattle.clap.specs.Lexer.{long_of}
use Rattle.clap.specs.Walk.{Text, idle, option}
use Rattle.command_line.specs.Parts.{Name}
use Rattle.command_line.specs.Uses.{key_text, Use, is_stray, open_cut, cut, ends, has_dashes}
use Rattle.command_line.specs.Values.{name_of}
use Rattle.command_line.proofs.OneCommand.{by_id}
use Rattle.command_line.proofs.OneWalk.{run, run_fails, run_step, verdict_of}
use Rattle.command_line.proofs.Standing.{Pending, Settles, dashes, standing}
use Rattle.command_line.proofs.Places.{place, place_option}
use Rattle.command_line.proofs.FollowsCut.{FollowsCut, start}
use Rattle.command_line.proofs.PlainRead.{stray_turn}
use Rattle.command_line.proofs.FlagTurns.{known_refused, unknown_turn}
use Rattle.command_line.proofs.ValueTurns.{taken_turn, taken_walked}
use Rattle.command_line.proofs.OneUse.{held_follows}

module _ (word : Text) (words : List Text) (plain : bytes_eq word dashes ≡ false) (undashed : has_dashes words ≡ false)
    (later : FollowsCut words) where
  module _ (to : List Use) (name : Name) where
    -- what is pending where the option awaits its value
    abbrev awaits : Pending
    awaits = Some (key_text (Some name), [])

    -- that fails, since it has none yet
    unfinished : Settles to awaits false
    unfinished = (rw (by_id (Some name)) refl, rw (by_id (Some name)) refl)

    -- no flag is its value
    awaited_long : (spelled : Text) (value : Option Text) (reading : Option Name)
        → long_of word ≡ Some (spelled, value) → name_of spelled ≡ reading
        → run (start (Some name) to to None) (word ∷ words) ≡ verdict_of None
    awaited_long spelled value None long names = run_fails _ word words
        (unknown_turn (option (key_text (Some name))) to awaits (place to) word plain spelled value long names)
    awaited_long spelled value (Some other) long names = run_fails _ word words
        (known_refused (option (key_text (Some name))) to awaits (place to) word plain spelled value other long names
        unfinished)

    -- each other word is, where it does not begin with one `-` and more
    awaited_plain : (stray : Bool) → long_of word ≡ None → is_stray word ≡ stray
        → run (start (Some name) to to None) (word ∷ words)
        ≡ verdict_of (ends to
        (if stray then None else option_map (λ later. (Some name, word) ∷ later) (cut None words)))
    awaited_plain true long stray_is = run_fails _ word words
        (stray_turn (option (key_text (Some name))) to awaits (place to) word plain long stray_is)
    awaited_plain false long stray_is =
        run_step _ _ word words true (taken_turn to None word plain long stray_is name (place to))
        (taken_walked to None word plain long stray_is name (place to))
        ∙ ap (λ here. run (standing idle to (Some (key_text (Some name), word ∷ [])) here) words)
        (sym (place_option name word to))
        ∙ held_follows words undashed later (Some name) word to

    -- a word where the option awaits its value
    pub cut_awaited : (reading : Option (Text × Option Text)) → long_of word ≡ reading
        → run (start (Some name) to to None) (word ∷ words)
        ≡ verdict_of (ends to (open_cut name reading word (cut None words)))
    cut_awaited None long = awaited_plain (is_stray word) long refl
    cut_awaited (Some parts) long = awaited_long parts.0 parts.1 (name_of parts.0) long refl
