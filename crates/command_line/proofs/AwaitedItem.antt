-- The item of a word that an option waits for is what the use of the cut says.
use Rattle.std.proofs.Common.{◌≡◌, ℕ, ◌+◌, Bool, true, false, if◌then◌else◌, List, [], ◌∷◌, length, Option, None, Some, refl, nat_lt}
use Rattle.std.proofs.lemmas.Bool.{eqb-true}
use Rattle.text_words.specs.Numbers.{starts_minus}
use Rattle.clap.specs.Lexer.{long_of}
use Rattle.clap.specs.Walk.{Text}
use Rattle.command_line.specs.Parts.{Name, Name as name, Item, Part as part}
use Rattle.command_line.specs.Values.{option_item}
use Rattle.command_line.specs.Items.{whole_part, next_part, joined}
use Rattle.command_line.specs.Uses.{Use, is_stray, open_cut, mesh_from}
use Rattle.command_line.proofs.Reading.{Agree, SaysNothing}
use Rattle.command_line.proofs.OneMore.{option_more, none_more}

-- a word that does not begin with `-` is no option
no_option : (word : Text) → starts_minus word ≡ false → (long_of word ≡ None) × (is_stray word ≡ false)
no_option [] known = (refl, refl)
no_option (byte ∷ rest) known = (rw known refl, rw known refl)

-- no value begins with `-`
no_minus : (option_name : Name) (text : Text) → starts_minus text ≡ true → SaysNothing (Some option_name) text
no_minus option_name [] known = absurd cc
no_minus option_name (byte ∷ rest) known = rw (eqb-true byte 45 known) (at_minus option_name)
  where
    long : (is_long : Bool) → (let none : Option ℕ = None in if is_long then none else none) ≡ None
    long true = refl
    long false = refl

    at_minus : (option_name : Name) → SaysNothing (Some option_name) (45 ∷ rest)
    at_minus name.Build = refl
    at_minus _ = long (nat_lt 6 (length (45 ∷ rest)))

module _ (words : List Text) (place : ℕ) (items : Option (List Item)) (waiting : Name → Option (List Item))
    (uses : Option (List Use)) (uses_waiting : Name → Option (List Use))
    (same : Agree (mesh_from false (place + 1) words) items uses)
    (same_waiting : (option_name : Name)
    → Agree (mesh_from true (place + 1) words) (waiting option_name) (uses_waiting option_name)) where
  -- the item of a word that an option waits for is what its use says
  pub open_agrees : (option_name : Name) (word : Text) → Agree (mesh_from false (place + 1) words)
      (joined (next_part option_name word) items waiting) (open_cut option_name (long_of word) word uses)
  open_agrees option_name word = go (starts_minus word) refl
    where
      refused : (reading : Option (Text × Option Text)) → SaysNothing (Some option_name) word
          → Agree (mesh_from false (place + 1) words) None (open_cut option_name reading word uses)
      refused None silent =
          none_more (mesh_from false (place + 1) words) (is_stray word) (Some option_name) word uses silent
      refused (Some parts) silent = tt

      go : (minus : Bool) → starts_minus word ≡ minus → Agree (mesh_from false (place + 1) words)
          (joined (if minus then part.Neither else whole_part (option_item option_name word)) items waiting)
          (open_cut option_name (long_of word) word uses)
      go true first = refused (long_of word) (no_minus option_name word first)
      go false first =
          let plain = no_option word first in
          rw (plain.0, plain.1) (option_more option_name word _ items waiting uses same)
