-- The place of the next word that is no flag, and what a use makes of it.
use Rattle.std.proofs.Common.{◌≡◌, ◌∙◌, ap, ℕ, ◌||◌, Bool, true, false, if◌then◌else◌, List, [], ◌∷◌, ◌++◌, Option, None, Some, refl, codes}
use Rattle.std.specs.List.{list_any}
use Rattle.std.specs.Str.{bytes_eq}
use Rattle.std.proofs.lemmas.Bool.{or_right}
use Rattle.std.proofs.lemmas.List.{map-append}
use Rattle.std.proofs.lemmas.List.Folds.{list_any-append}
use Rattle.clap.specs.Walk.{Text}
use Rattle.command_line.specs.Parts.{Name, Name as name}
use Rattle.command_line.specs.Uses.{key_text, Use, use_row, rows, seen}

-- the place of the next word that is no flag: the first is the MESH word
abbrev pub place : List Use → ℕ
place uses = if seen None uses then 2 else 1

-- an argument was seen before, or is the one more that is used
seen_after : (key more : Option Name) (text : Text) (uses : List Use)
    → seen key (uses ++ (more, text) ∷ []) ≡ (seen key uses || (bytes_eq (key_text more) (key_text key) || false))
seen_after key more text uses =
    ap (list_any (λ row. bytes_eq row.id (key_text key))) (map-append use_row uses ((more, text) ∷ []))
    ∙ list_any-append (λ row. bytes_eq row.id (key_text key)) (rows uses) (use_row (more, text) ∷ [])

-- no option is the MESH word
not_mesh : (chosen : Name) → bytes_eq (key_text (Some chosen)) (codes "mesh") ≡ false
not_mesh name.Grid = refl
not_mesh name.Workers = refl
not_mesh name.Build = refl
not_mesh name.Unit = refl

-- an option leaves the place as it is
pub place_option : (chosen : Name) (text : Text) (uses : List Use)
    → place (uses ++ (Some chosen, text) ∷ []) ≡ place uses
place_option chosen text uses =
    ap (λ is_there. if is_there then 2 else 1) (seen_after None (Some chosen) text uses ∙ alone (seen None uses))
  where
    alone : (is_there : Bool) → (is_there || (bytes_eq (key_text (Some chosen)) (codes "mesh") || false)) ≡ is_there
    alone true = refl
    alone false = rw (not_mesh chosen) refl

-- behind the MESH word it is the second
pub place_mesh : (text : Text) (uses : List Use) → place (uses ++ (None, text) ∷ []) ≡ 2
place_mesh text uses =
    ap (λ is_there. if is_there then 2 else 1) (seen_after None None text uses ∙ or_right (seen None uses) true refl)
