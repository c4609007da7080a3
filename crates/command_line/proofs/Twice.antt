-- Where what is pending fails, as that of an argument that stands twice, all words fail, and so does the end.
use Rattle.std.proofs.Common.{◌≡◌, ℕ, Bool, true, false, if◌then◌else◌, List, [], ◌∷◌, Option, None, Some, refl}
use Rattle.std.specs.Str.{bytes_eq}
use Rattle.std.proofs.lemmas.Bool.{or_parts}
use Rattle.clap.specs.Lexer.{long_of}
use Rattle.clap.specs.Walk.{Text, idle}
use Rattle.clap.specs.Faults.{walk_fault}
use Rattle.clap.specs.Takes.{walk_passes}
use Rattle.command_line.specs.Parts.{Name}
use Rattle.command_line.specs.Uses.{Use, is_stray, has_dashes}
use Rattle.command_line.specs.Values.{name_of}
use Rattle.command_line.proofs.OneWalk.{run, run_fails, verdict_of}
use Rattle.command_line.proofs.Standing.{Pending, Settles, Turns, dashes, standing}
use Rattle.command_line.proofs.PlainRead.{stray_turn}
use Rattle.command_line.proofs.FlagTurns.{known_refused, unknown_turn}
use Rattle.command_line.proofs.ValueTurns.{mesh_turn, second_turn}

module _ (uses : List Use) (pending : Pending) (fails : Settles uses pending false) where
  -- at the end it fails
  twice_end : (position : ℕ) → run (standing idle uses pending position) [] ≡ verdict_of None
  unfolding walk_passes walk_fault
  twice_end position = rw (fails.0, fails.1) refl

  -- each next word fails
  twice_turn : (mesh_seen : Bool) (word : Text) → bytes_eq word dashes ≡ false
      → Turns (standing idle uses pending (if mesh_seen then 2 else 1)) word false
  twice_turn mesh_seen word plain = go (long_of word) refl
    where
      of_value : (mesh_seen stray : Bool) → long_of word ≡ None → is_stray word ≡ stray
          → Turns (standing idle uses pending (if mesh_seen then 2 else 1)) word false
      of_value mesh_seen true long stray_is =
          stray_turn idle uses pending (if mesh_seen then 2 else 1) word plain long stray_is
      of_value true false long stray_is = second_turn uses pending word plain long stray_is
      of_value false false long stray_is = mesh_turn uses pending word plain long stray_is false fails

      of_flag : (spelled : Text) (value : Option Text) (reading : Option Name) → long_of word ≡ Some (spelled, value)
          → name_of spelled ≡ reading
          → Turns (standing idle uses pending (if mesh_seen then 2 else 1)) word false
      of_flag spelled value None long names =
          unknown_turn idle uses pending (if mesh_seen then 2 else 1) word plain spelled value long names
      of_flag spelled value (Some name) long names =
          known_refused idle uses pending (if mesh_seen then 2 else 1) word plain spelled value name long names fails

      go : (reading : Option (Text × Option Text)) → long_of word ≡ reading
          → Turns (standing idle uses pending (if mesh_seen then 2 else 1)) word false
      go None long = of_value mesh_seen (is_stray word) long refl
      go (Some parts) long = of_flag parts.0 parts.1 (name_of parts.0) long refl

  -- so all words do
  pub twice : (mesh_seen : Bool) (words : List Text) → has_dashes words ≡ false
      → run (standing idle uses pending (if mesh_seen then 2 else 1)) words ≡ verdict_of None
  twice mesh_seen [] undashed = twice_end (if mesh_seen then 2 else 1)
  twice mesh_seen (word ∷ words) undashed =
      run_fails _ word words (twice_turn mesh_seen word (or_parts (bytes_eq word dashes) (has_dashes words) undashed).0)
