-- One word more where no option awaits its value.
use Rattle.std.proofs.Common.{◌≡◌, ◌∙◌, ap, not, Bool, true, false, if◌then◌else◌, List, [], ◌∷◌, ◌++◌, Option, None, Some, refl, sym}
use Rattle.std.specs.Prelude.{option_map}
use Rattle.std.specs.Str.{bytes_eq}
use Rattle.clap.specs.Lexer.{long_of}
use Rattle.clap.specs.Walk.{Text, idle}
use Rattle.command_line.specs.Parts.{Name}
use Rattle.command_line.specs.Uses.{key_text, Use, seen, is_stray, long_cut, idle_cut, cut, ends, has_dashes}
use Rattle.command_line.specs.Values.{name_of}
use Rattle.command_line.proofs.OneWalk.{Verdict, run, run_fails, run_step, verdict_of}
use Rattle.command_line.proofs.Standing.{Pending, Turns, dashes, standing}
use Rattle.command_line.proofs.Places.{place, place_mesh, place_option}
use Rattle.command_line.proofs.FollowsCut.{FollowsCut, IsReady}
use Rattle.command_line.proofs.PlainRead.{stray_turn}
use Rattle.command_line.proofs.FlagTurns.{front_turn, front_walked, unknown_turn, value_turn, value_walked}
use Rattle.command_line.proofs.ValueTurns.{mesh_turn, mesh_walked, second_turn}
use Rattle.command_line.proofs.OneUse.{verdict_with, with_use, held_follows}

module _ (word : Text) (words : List Text) (plain : bytes_eq word dashes ≡ false) (undashed : has_dashes words ≡ false)
    (later : FollowsCut words) where
  module _ (uses to : List Use) (pending : Pending) (ready : IsReady uses to pending) where
    -- a word that is a name and its value
    cut_value : (spelled value : Text) (name : Name) → long_of word ≡ Some (spelled, Some value)
        → name_of spelled ≡ Some name → run (standing idle uses pending (place to)) (word ∷ words)
        ≡ verdict_of (ends to (option_map (λ later. (Some name, value) ∷ later) (cut None words)))
    cut_value spelled value name long names = go (seen (Some name) to) refl ∙ with_use (Some name, value) to words
      where
        more : List Use
        more = to ++ (Some name, value) ∷ []

        turn : (is : Bool) → seen (Some name) to ≡ is → Turns (standing idle uses pending (place to)) word (not is)
        turn is new =
            let at_place = value_turn idle uses pending (place to) word plain to ready.rows_are in
            let passes = at_place spelled name value long names ready.settles in
            (passes.0 ∙ ap not new, passes.1 ∙ ap not new)

        nothing_due : IsReady more more None
        nothing_due = record { settles = (refl, refl); rows_are = refl }

        go : (is : Bool) → seen (Some name) to ≡ is → run (standing idle uses pending (place to)) (word ∷ words)
            ≡ verdict_with (Some name, value) to words (seen (Some name) to)
        go true new =
            run_fails _ word words (turn true new) ∙ sym (ap (verdict_with (Some name, value) to words) new)
        go false new =
            run_step _ _ word words true (turn false new)
            (value_walked idle uses pending (place to) word plain to ready.rows_are spelled name value long names new)
            ∙ ap (λ here. run (standing idle more None here) words) (sym (place_option name value to))
            ∙ later None more more None nothing_due ∙ sym (ap (verdict_with (Some name, value) to words) new)

    -- a word that begins with `--` and more
    cut_long : (spelled : Text) (value : Option Text) (reading : Option Name) → long_of word ≡ Some (spelled, value)
        → name_of spelled ≡ reading → run (standing idle uses pending (place to)) (word ∷ words)
        ≡ verdict_of (ends to (long_cut reading value (cut None words) (λ name. cut (Some name) words)))
    cut_long spelled value None long names =
        run_fails _ word words (unknown_turn idle uses pending (place to) word plain spelled value long names)
    cut_long spelled (Some value) (Some name) long names = cut_value spelled value name long names
    cut_long spelled None (Some name) long names =
        run_step _ _ word words true
        (front_turn idle uses pending (place to) word plain spelled name true long names ready.settles)
        (front_walked idle uses pending (place to) word plain to ready.rows_are spelled name long names)
        ∙ later (Some name) to to None tt

    -- a word that does not
    cut_plain : (stray : Bool) → long_of word ≡ None → is_stray word ≡ stray
        → run (standing idle uses pending (place to)) (word ∷ words)
        ≡ verdict_of (ends to (if stray then None else option_map (λ later. (None, word) ∷ later) (cut None words)))
    cut_plain true long stray_is =
        run_fails _ word words (stray_turn idle uses pending (place to) word plain long stray_is)
    cut_plain false long stray_is = go (seen None to) refl
      where
        at : Bool → Verdict
        at mesh_seen = run (standing idle uses pending (if mesh_seen then 2 else 1)) (word ∷ words)

        go : (is : Bool) → seen None to ≡ is → run (standing idle uses pending (place to)) (word ∷ words)
            ≡ verdict_of (ends to (option_map (λ later. (None, word) ∷ later) (cut None words)))
        go true known =
            ap at known ∙ run_fails _ word words (second_turn uses pending word plain long stray_is)
            ∙ sym (ap (verdict_with (None, word) to words) known) ∙ with_use (None, word) to words
        go false known =
            ap at known
            ∙ run_step _ _ word words true (mesh_turn uses pending word plain long stray_is true ready.settles)
            (mesh_walked uses pending word plain long stray_is to ready.rows_are)
            ∙ ap (λ here. run (standing idle to (Some (key_text None, word ∷ [])) here) words)
            (sym (place_mesh word to))
            ∙ held_follows words undashed later None word to

    -- a word where no option awaits its value
    pub cut_idle : (reading : Option (Text × Option Text)) → long_of word ≡ reading
        → run (standing idle uses pending (place to)) (word ∷ words)
        ≡ verdict_of (ends to (idle_cut reading word (cut None words) (λ name. cut (Some name) words)))
    cut_idle None long = cut_plain (is_stray word) long refl
    cut_idle (Some parts) long = cut_long parts.0 parts.1 (name_of parts.0) long refl
