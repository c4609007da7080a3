-- When items are what uses say: one item for each use, the value of its text, and the MESH word's place among them.
use Rattle.std.proofs.Common.{◌≡◌, ℕ, true, false, List, [], ◌∷◌, Option, None, Some, subst}
use Rattle.std.specs.Prelude.{◌⊎◌, ⊤, filter_map, slice_get}
use Rattle.clap.specs.Walk.{Text}
use Rattle.fixed_box.specs.declared.shapes.TheConstants.{UNIT_MAX}
use Rattle.obj_text.specs.declared.limits.TheConstants.{LEAST_GRID, MOST_GRID}
use Rattle.command_line.specs.declared.limits.TheConstants.{MOST_WORKERS}
use Rattle.command_line.specs.Parts.{Name, Name as name, Item, Item as item}
use Rattle.command_line.specs.Values.{number_in, build_of, option_item}
use Rattle.command_line.specs.Plans.{mesh_place}
use Rattle.command_line.specs.Uses.{Use, is_mesh}
use Rattle.command_line.proofs.Options.{mapped, unmapped}

-- the item is what an argument's text says
abbrev pub Says : Option Name → Text → Item → Type 0
Says None text (item.Mesh place) = is_mesh text ≡ true
Says (Some name.Grid) text (item.Grid squares) = number_in LEAST_GRID MOST_GRID text ≡ Some squares
Says (Some name.Workers) text (item.Workers count) = number_in 1 MOST_WORKERS text ≡ Some count
Says (Some name.Build) text (item.Build named) = build_of text ≡ Some named
Says (Some name.Unit) text (item.Unit steps) = number_in 1 UNIT_MAX text ≡ Some steps
Says _ _ _ = ⊥

-- an argument's text says nothing that is accepted
abbrev pub SaysNothing : Option Name → Text → Type 0
SaysNothing None text = is_mesh text ≡ false
SaysNothing (Some name.Grid) text = number_in LEAST_GRID MOST_GRID text ≡ None
SaysNothing (Some name.Workers) text = number_in 1 MOST_WORKERS text ≡ None
SaysNothing (Some name.Build) text = build_of text ≡ None
SaysNothing (Some name.Unit) text = number_in 1 UNIT_MAX text ≡ None

-- an option's item is what its text says
pub option_says : (option_name : Name) (text : Text) (said : Item) → option_item option_name text ≡ Some said
    → Says (Some option_name) text said
option_says name.Grid text said known =
    let made = mapped item.Grid _ said known in subst (Says (Some name.Grid) text) made.2 made.1
option_says name.Workers text said known =
    let made = mapped item.Workers _ said known in subst (Says (Some name.Workers) text) made.2 made.1
option_says name.Build text said known =
    let made = mapped item.Build _ said known in subst (Says (Some name.Build) text) made.2 made.1
option_says name.Unit text said known =
    let made = mapped item.Unit _ said known in subst (Says (Some name.Unit) text) made.2 made.1

-- an option without an item says nothing
pub option_silent : (option_name : Name) (text : Text) → option_item option_name text ≡ None
    → SaysNothing (Some option_name) text
option_silent name.Grid text known = unmapped item.Grid _ known
option_silent name.Workers text known = unmapped item.Workers _ known
option_silent name.Build text known = unmapped item.Build _ known
option_silent name.Unit text known = unmapped item.Unit _ known

-- each item is what its use says
abbrev pub AreRead : List Use → List Item → Type 0
AreRead [] [] = ⊤
AreRead (one ∷ uses) (said ∷ items) = Says one.0 one.1 said × AreRead uses items
AreRead _ _ = ⊥

-- some use says nothing
abbrev pub HasUnread : List Use → Type 0
HasUnread [] = ⊥
HasUnread (one ∷ uses) = SaysNothing one.0 one.1 ⊎ HasUnread uses

-- the place of the first MESH word
abbrev pub first_mesh : List Item → Option ℕ
first_mesh items = slice_get (filter_map mesh_place items) 0

-- items, with the place of the MESH word, are what uses say; or there are no items, and no uses or an unread one
abbrev pub Agree : Option ℕ → Option (List Item) → Option (List Use) → Type 0
Agree place (Some items) (Some uses) = AreRead uses items × (place ≡ first_mesh items)
Agree place (Some items) None = ⊥
Agree place None (Some uses) = HasUnread uses
Agree place None None = ⊤
