-- The item of a word that begins with `--` and more is what the use of the cut says.
use Rattle.std.proofs.Common.{◌≡◌, ℕ, ◌+◌, not, Bool, true, false, if◌then◌else◌, List, Option, None, Some, refl}
use Rattle.std.specs.List.{before_first, after_first}
use Rattle.clap.specs.Lexer.{has_byte}
use Rattle.clap.specs.Walk.{Text}
use Rattle.command_line.specs.Parts.{Name, Item}
use Rattle.command_line.specs.Values.{name_of}
use Rattle.command_line.specs.Items.{value_part, front_part, long_part, joined}
use Rattle.command_line.specs.Uses.{Use, long_cut, mesh_from}
use Rattle.command_line.proofs.EqualsSign.{is_equals, long_with, long_alone, name_alone}
use Rattle.command_line.proofs.Reading.{Agree}
use Rattle.command_line.proofs.OneMore.{option_more}

module _ (words : List Text) (place : ℕ) (items : Option (List Item)) (waiting : Name → Option (List Item))
    (uses : Option (List Use)) (uses_waiting : Name → Option (List Use))
    (same : Agree (mesh_from false (place + 1) words) items uses)
    (same_waiting : (option_name : Name)
    → Agree (mesh_from true (place + 1) words) (waiting option_name) (uses_waiting option_name)) where
  -- the item of what follows `--` is what its use says
  pub long_agrees : (text : Text) → Agree (mesh_from (not (has_byte 61 text)) (place + 1) words)
      (joined (long_part text) items waiting)
      (long_cut (name_of (before_first is_equals text))
      (if has_byte 61 text then Some (after_first is_equals text) else None) uses uses_waiting)
  long_agrees text = go (has_byte 61 text) refl
    where
      with_value : (reading : Option Name) (value : Text) → Agree (mesh_from false (place + 1) words)
          (joined (value_part reading value) items waiting) (long_cut reading (Some value) uses uses_waiting)
      with_value None value = tt
      with_value (Some option_name) value =
          option_more option_name value (mesh_from false (place + 1) words) items waiting uses same

      alone : (reading : Option Name) → Agree (mesh_from true (place + 1) words)
          (joined (front_part reading) items waiting) (long_cut reading None uses uses_waiting)
      alone None = tt
      alone (Some option_name) = same_waiting option_name

      go : (has : Bool) → has_byte 61 text ≡ has → Agree (mesh_from (not (has_byte 61 text)) (place + 1) words)
          (joined (long_part text) items waiting)
          (long_cut (name_of (before_first is_equals text))
          (if has_byte 61 text then Some (after_first is_equals text) else None) uses uses_waiting)
      go true known = rw (long_with text known, known)
          (with_value (name_of (before_first is_equals text)) (after_first is_equals text))
      go false known = rw (long_alone text known, name_alone text known, known) (alone (name_of text))
