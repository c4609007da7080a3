-- One more word: the items and the uses that it begins agree where those behind it do.
use Rattle.std.proofs.Common.{◌≡◌, ◌∙◌, ℕ, Bool, true, false, if◌then◌else◌, List, ◌∷◌, Option, None, Some, refl, sym}
use Rattle.std.specs.Prelude.{option_map}
use Rattle.std.proofs.Common.{inl, inr}
use Rattle.clap.specs.Walk.{Text}
use Rattle.command_line.specs.Parts.{Name, Name as name, Item, Item as item, Part as part}
use Rattle.command_line.specs.Values.{option_item}
use Rattle.command_line.specs.Items.{whole_part, joined}
use Rattle.command_line.specs.Uses.{Use, is_mesh}
use Rattle.command_line.proofs.Reading.{Agree, Says, SaysNothing, first_mesh, option_says, option_silent}

-- an option's item is no MESH word
same_mesh : (option_name : Name) (text : Text) (first : Item) (items : List Item) → Says (Some option_name) text first
    → first_mesh (first ∷ items) ≡ first_mesh items
same_mesh name.Grid text (item.Grid squares) items says = refl
same_mesh name.Workers text (item.Workers count) items says = refl
same_mesh name.Build text (item.Build named) items says = refl
same_mesh name.Unit text (item.Unit steps) items says = refl
same_mesh _ _ _ items says = absurd says

-- one option more leaves items and uses in agreement
pub option_more : (option_name : Name) (text : Text) (place : Option ℕ) (items : Option (List Item))
    (waiting : Name → Option (List Item)) (uses : Option (List Use)) → Agree place items uses
    → Agree place (joined (whole_part (option_item option_name text)) items waiting)
    (option_map (λ some_uses. (Some option_name, text) ∷ some_uses) uses)
option_more option_name text place items waiting uses same = go (option_item option_name text) refl items uses same
  where
    go : (item : Option Item) → option_item option_name text ≡ item
        → (items_so_far : Option (List Item)) (uses_so_far : Option (List Use)) → Agree place items_so_far uses_so_far
        → Agree place (joined (whole_part item) items_so_far waiting)
        (option_map (λ some_uses. (Some option_name, text) ∷ some_uses) uses_so_far)
    go None is items_so_far None agree_so = tt
    go None is items_so_far (Some some_uses) agree_so = inl (option_silent option_name text is)
    go (Some first) is None None agree_so = tt
    go (Some first) is None (Some some_uses) agree_so = inr agree_so
    go (Some first) is (Some items_so_far) None agree_so = absurd agree_so
    go (Some first) is (Some items_so_far) (Some some_uses) agree_so =
        let says = option_says option_name text first is in
        ((says, agree_so.0), agree_so.1 ∙ sym (same_mesh option_name text first items_so_far says))

-- so does one MESH word more
pub mesh_more : (text : Text) (at : ℕ) (place : Option ℕ) (items : Option (List Item))
    (waiting : Name → Option (List Item)) (uses : Option (List Use)) → is_mesh text ≡ true → Agree place items uses
    → Agree (Some at) (joined (part.Whole (item.Mesh at)) items waiting)
    (option_map (λ some_uses. (None, text) ∷ some_uses) uses)
mesh_more text at place None waiting None is agree_so = tt
mesh_more text at place None waiting (Some some_uses) is agree_so = inr agree_so
mesh_more text at place (Some items) waiting None is agree_so = absurd agree_so
mesh_more text at place (Some items) waiting (Some some_uses) is agree_so = ((is, agree_so.0), refl)

-- so does a word that is refused, or says nothing
pub none_more : (place : Option ℕ) (is_refused : Bool) (key : Option Name) (text : Text) (uses : Option (List Use))
    → SaysNothing key text
    → Agree place None (if is_refused then None else option_map (λ some_uses. (key, text) ∷ some_uses) uses)
none_more place true key text uses silent = tt
none_more place false key text None silent = tt
none_more place false key text (Some some_uses) silent = inl silent
