-- The value that `clap` gives of an id is the first text of its row.
use Rattle.std.proofs.Common.{◌≡◌, ◌∙◌, ap, ℕ, List, [], ◌∷◌, map, Option, None, Some, refl, sym}
use Rattle.std.specs.Prelude.{option_map, option_and_then, slice_get, find}
use Rattle.std.specs.Borrow.{Bor}
use Rattle.std.specs.Str.{bytes_eq}
use Rattle.clap.specs.Facts.{Entry}
use Rattle.clap.specs.Walk.{Text, Row, first_of, row_of}
use Rattle.clap.specs.Words.{first_value, rows_of}
use Rattle.clap.specs.declared.parser.matches.Found.{Found}
use Rattle.clap.proofs.WalkLemmas.{find_row}
use Rattle.command_line.specs.Uses.{plan_from}

-- the first text is that of the first reference
first_text : (values : List (Bor Text)) → option_map (λ text. text.now) (slice_get values 0)
    ≡ slice_get (map (λ text. text.now) values) 0
first_text [] = refl
first_text (value ∷ values) = refl

-- the value of an id, by the row of its entry
pub value_row : (found : Found) (id : Text) → first_value found id ≡ first_of id (rows_of found)
value_row found id = go (find (λ entry. bytes_eq entry.0.now id) found.entries.items)
    ∙ ap (option_and_then (λ row. slice_get row.values 0)) (sym (find_row found.entries.items id))
  where
    go : (answer : Option Entry)
        → option_and_then (λ entry_values. option_map (λ text. text.now) (slice_get entry_values.vals.items 0))
        (option_map (λ entry. entry.1) answer)
        ≡ option_and_then (λ (row : Row). slice_get row.values 0) (option_map row_of answer)
    go None = refl
    go (Some entry) = first_text entry.1.vals.items

-- equal texts make equal plans
pub same_texts : (place : Option ℕ)
    {mesh_text other_mesh grid_text other_grid workers_text other_workers build_text other_build unit_text other_unit
    : Option Text} → mesh_text ≡ other_mesh → grid_text ≡ other_grid → workers_text ≡ other_workers
    → build_text ≡ other_build
    → unit_text ≡ other_unit
    → plan_from place mesh_text grid_text workers_text build_text unit_text
    ≡ plan_from place other_mesh other_grid other_workers other_build other_unit
same_texts place mesh grid workers build unit =
    λ step. plan_from place (mesh step) (grid step) (workers step) (build step) (unit step)
