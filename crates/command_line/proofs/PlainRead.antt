-- How a word that does not begin with `--` and more is read: as a value, or as one that fails.
use Rattle.std.proofs.Common.{◌≡◌, ap, ℕ, true, false, List, [], ◌∷◌, Option, None, Some, refl}
use Rattle.std.specs.Prelude.{slice_get}
use Rattle.std.specs.Str.{bytes_eq, chars}
use Rattle.clap.specs.Lexer.{long_of, short_of}
use Rattle.clap.specs.Walk.{Text, Waiting, word_met}
use Rattle.clap.specs.declared.error.kind.ErrorKind.TheVariants.{UnknownArgument}
use Rattle.clap.proofs.OnLiterals.{clap_on_literals}
use Rattle.command_line.specs.Uses.{Use, is_stray}
use Rattle.command_line.proofs.OneCommand.{rules_built}
use Rattle.command_line.proofs.FoundRows.{clear}
use Rattle.command_line.proofs.Standing.{Pending, Turns, dashes, holding, standing}
use Rattle.command_line.proofs.WordRead.{IsRead, none_named, turn_faults, turn_passed}
use Rattle.clap.specs.Walk.{plain_word}

module _ (waiting : Waiting) (uses : List Use) (pending : Pending) (position : ℕ) (word : Text)
    (plain : bytes_eq word dashes ≡ false) where
  -- a word that is no flag is a value
  pub plain_read : long_of word ≡ None → is_stray word ≡ false
      → IsRead waiting uses pending position word (plain_word rules_built waiting word (holding uses pending)) true []
  unfolding clap_on_literals
  plain_read long stray = go (short_of word) refl
    where
      by_letter : (byte : ℕ) (rest : Text) (reading : Option ℕ) → short_of word ≡ Some (byte ∷ rest)
          → slice_get (chars (byte ∷ rest)) 0 ≡ reading
          → IsRead waiting uses pending position word
          (plain_word rules_built waiting word (holding uses pending)) true []
      by_letter byte rest None is_short first = record {
        met_is = rw (none_named waiting word, plain, long, is_short, first) refl;
        passes_is = rw (none_named waiting word, plain, long, is_short, first) refl;
        fault_is = rw (none_named waiting word, plain, long, is_short, first) refl;
      }
      by_letter byte rest (Some letter) is_short first =
          let no : true ≡ false = rw (is_short, first) at stray in absurd cc

      go : (reading : Option Text) → short_of word ≡ reading
          → IsRead waiting uses pending position word
          (plain_word rules_built waiting word (holding uses pending)) true []
      go (Some (byte ∷ rest)) is_short = by_letter byte rest (slice_get (chars (byte ∷ rest)) 0) is_short refl
      go _ is_short = record {
        met_is = rw (none_named waiting word, plain, long, is_short) refl;
        passes_is = rw (none_named waiting word, plain, long, is_short) refl;
        fault_is = rw (none_named waiting word, plain, long, is_short) refl;
      }

  -- a word that begins with one `-` and more fails
  pub stray_turn : long_of word ≡ None → is_stray word ≡ true
      → Turns (standing waiting uses pending position) word false
  unfolding clap_on_literals
  stray_turn long stray = go (short_of word) refl
    where
      by_letter : (byte : ℕ) (rest : Text) (reading : Option ℕ) → short_of word ≡ Some (byte ∷ rest)
          → slice_get (chars (byte ∷ rest)) 0 ≡ reading
          → Turns (standing waiting uses pending position) word false
      by_letter byte rest None is_short first = let no : false ≡ true = rw (is_short, first) at stray in absurd cc
      by_letter byte rest (Some letter) is_short first =
          let read : IsRead waiting uses pending position word
          (word_met rules_built [] false waiting position word (holding uses pending)) false (UnknownArgument ∷ [])
          = record {
            met_is = refl;
            passes_is = rw (none_named waiting word, plain, long, is_short, first) refl;
            fault_is = rw (none_named waiting word, plain, long, is_short, first) refl;
          } in
          (turn_passed read, ap clear (turn_faults read))

      go : (reading : Option Text) → short_of word ≡ reading → Turns (standing waiting uses pending position) word false
      go (Some (byte ∷ rest)) is_short = by_letter byte rest (slice_get (chars (byte ∷ rest)) 0) is_short refl
      go _ is_short = let no : false ≡ true = rw is_short at stray in absurd cc
