-- A list that holds the word `--` makes no plan, and each other one that of what a parse finds.
use Rattle.std.proofs.Common.{◌≡◌, ◌∙◌, ap, ℕ, ◌+◌, Bool, true, false, List, [], ◌∷◌, Option, None, Some, refl}
use Rattle.std.specs.Prelude.{option_and_then, codes}
use Rattle.std.specs.Str.{bytes_eq}
use Rattle.std.proofs.lemmas.Slice.Eq.{bytes_eq-Decides}
use Rattle.clap.specs.Walk.{Text, Row}
use Rattle.command_line.specs.Parts.{Name, Item, Part, Part as part}
use Rattle.command_line.specs.Items.{joined, items_from}
use Rattle.command_line.specs.Plans.{item_plan, plan_of}
use Rattle.command_line.specs.Uses.{found, has_dashes, mesh_from, row_plan}
use Rattle.command_line.proofs.SamePlan.{same_plan}

-- a word before none makes none
none_joined : (part_read : Part) (later : Option (List Item)) (waiting : Name → Option (List Item)) → later ≡ None
    → ((option_name : Name) → waiting option_name ≡ None) → joined part_read later waiting ≡ None
none_joined (part.Whole read) later waiting none none_waiting = rw none refl
none_joined (part.Front option_name) later waiting none none_waiting = none_waiting option_name
none_joined part.Neither later waiting none none_waiting = refl

-- words with a `--` among them make no items
no_items : (due : Option Name) (place : ℕ) (words : List Text) → has_dashes words ≡ true
    → items_from due place words ≡ None
no_items due place [] known = absurd cc
no_items due place (word ∷ words) known = go due (bytes_eq word (codes "--")) refl
    (no_items None (place + 1) words) (λ option_name. no_items (Some option_name) (place + 1) words)
  where
    go : (due : Option Name) (is : Bool) → bytes_eq word (codes "--") ≡ is
        → (has_dashes words ≡ true → items_from None (place + 1) words ≡ None)
        → ((option_name : Name) → has_dashes words ≡ true → items_from (Some option_name) (place + 1) words ≡ None)
        → items_from due place (word ∷ words) ≡ None
    go None true is later waiting = rw ((bytes_eq-Decides word (codes "--")).0 is) refl
    go (Some option_name) true is later waiting = rw ((bytes_eq-Decides word (codes "--")).0 is) refl
    go None false is later waiting =
        none_joined _ _ _ (later (rw is at known)) (λ option_name. waiting option_name (rw is at known))
    go (Some other) false is later waiting =
        none_joined _ _ _ (later (rw is at known)) (λ option_name. waiting option_name (rw is at known))

-- so they make no plan
pub dashes_refused : (words : List Text) → has_dashes words ≡ true → plan_of words ≡ None
dashes_refused words known = ap (option_and_then item_plan) (no_items None 0 words known)

-- nor do words in which nothing is found
pub unfound_refused : (words : List Text) → has_dashes words ≡ false → found words ≡ None → plan_of words ≡ None
unfound_refused words undashed known =
    same_plan words undashed ∙ ap (option_and_then (row_plan (mesh_from false 0 words))) known

-- all others make the plan of what is found
pub found_plan : (words : List Text) (found_rows : List Row) → has_dashes words ≡ false → found words ≡ Some found_rows
    → plan_of words ≡ row_plan (mesh_from false 0 words) found_rows
found_plan words found_rows undashed known =
    same_plan words undashed ∙ ap (option_and_then (row_plan (mesh_from false 0 words))) known
