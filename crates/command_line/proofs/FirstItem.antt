-- The item of a word where no option waits is what the use of the cut says.
use Rattle.std.proofs.Common.{◌≡◌, ℕ, ◌+◌, ◌==◌, not, Bool, true, false, List, [], ◌∷◌, Option, None, codes, refl}
use Rattle.std.specs.Str.{bytes_eq}
use Rattle.std.proofs.lemmas.Bool.{eqb-true}
use Rattle.clap.specs.Lexer.{long_of, has_byte}
use Rattle.clap.specs.Walk.{Text}
use Rattle.command_line.specs.Parts.{Name, Item}
use Rattle.command_line.specs.Items.{first_part, joined}
use Rattle.command_line.specs.Uses.{Use, is_stray, idle_cut, mesh_from}
use Rattle.command_line.proofs.Reading.{Agree}
use Rattle.command_line.proofs.OneMore.{mesh_more, none_more}
use Rattle.command_line.proofs.LongItem.{long_agrees}

module _ (words : List Text) (place : ℕ) (items : Option (List Item)) (waiting : Name → Option (List Item))
    (uses : Option (List Use)) (uses_waiting : Name → Option (List Use))
    (same : Agree (mesh_from false (place + 1) words) items uses)
    (same_waiting : (option_name : Name)
    → Agree (mesh_from true (place + 1) words) (waiting option_name) (uses_waiting option_name)) where
  -- the item of a word that begins with `-` is what its use says
  minus_agrees : (byte : ℕ) (rest : Text) → (byte == 45) ≡ true → bytes_eq (byte ∷ rest) (codes "--") ≡ false
      → Agree (mesh_from false place ((byte ∷ rest) ∷ words))
      (joined (first_part place (byte ∷ rest)) items waiting)
      (idle_cut (long_of (byte ∷ rest)) (byte ∷ rest) uses uses_waiting)
  minus_agrees byte [] first plain =
      let is_open : is_stray (byte ∷ []) ≡ false = rw first refl in
      let place_is : Option ℕ = mesh_from (not (has_byte 61 (byte ∷ []))) (place + 1) words in
      rw (first, is_open) (none_more place_is false None (byte ∷ []) uses (rw first refl))
  minus_agrees byte (second_byte ∷ more) first plain = go (second_byte == 45) refl more plain
    where
      go : (minus : Bool) → (second_byte == 45) ≡ minus → (rest : Text)
          → bytes_eq (byte ∷ second_byte ∷ rest) (codes "--") ≡ false
          → Agree (mesh_from false place ((byte ∷ second_byte ∷ rest) ∷ words))
          (joined (first_part place (byte ∷ second_byte ∷ rest)) items waiting)
          (idle_cut (long_of (byte ∷ second_byte ∷ rest)) (byte ∷ second_byte ∷ rest) uses uses_waiting)
      go true second [] open_end = absurd (let no : true ≡ false = rw (first, second) at open_end in cc)
      go true second (third_byte ∷ others) open_end =
          let first_differs : (byte == 61) ≡ false = rw (eqb-true byte 45 first) refl in
          let second_differs : (second_byte == 61) ≡ false = rw (eqb-true second_byte 45 second) refl in
          rw (first, second, first_differs, second_differs)
          (long_agrees words place items waiting uses uses_waiting same same_waiting (third_byte ∷ others))
      go false second rest open_end =
          let place_is : Option ℕ = mesh_from (not (has_byte 61 (byte ∷ second_byte ∷ rest))) (place + 1) words in
          rw (first, second)
          (none_more place_is (is_stray (byte ∷ second_byte ∷ rest)) None (byte ∷ second_byte ∷ rest) uses
          (rw first refl))

  -- so is that of each word where no option waits
  pub idle_agrees : (word : Text) → bytes_eq word (codes "--") ≡ false
      → Agree (mesh_from false place (word ∷ words)) (joined (first_part place word) items waiting)
      (idle_cut (long_of word) word uses uses_waiting)
  idle_agrees [] plain = none_more (mesh_from false place ([] ∷ words)) false None [] uses refl
  idle_agrees (byte ∷ rest) plain = go (byte == 45) refl
    where
      go : (minus : Bool) → (byte == 45) ≡ minus → Agree (mesh_from false place ((byte ∷ rest) ∷ words))
          (joined (first_part place (byte ∷ rest)) items waiting)
          (idle_cut (long_of (byte ∷ rest)) (byte ∷ rest) uses uses_waiting)
      go true first = minus_agrees byte rest first plain
      go false first =
          let is_open : is_stray (byte ∷ rest) ≡ false = rw first refl in
          rw (first, is_open) (mesh_more (byte ∷ rest) place _ items waiting uses (rw first refl) same)
