-- The values of items that are read, gathered by argument: each is that of a text of the argument, in order.
use Rattle.std.proofs.Common.{◌≡◌, ℕ, ◌≤◌, List, [], ◌∷◌, length, Option, None, Some, refl, arith, true}
use Rattle.std.specs.Prelude.{⊤, filter_map, slice_get}
use Rattle.clap.specs.Walk.{Text}
use Rattle.fixed_box.specs.declared.shapes.TheConstants.{UNIT_MAX}
use Rattle.obj_text.specs.declared.limits.TheConstants.{LEAST_GRID, MOST_GRID}
use Rattle.command_line.specs.declared.limits.TheConstants.{MOST_WORKERS}
use Rattle.command_line.specs.Parts.{Name as name, Item, Item as item}
use Rattle.command_line.specs.Values.{number_in, build_of}
use Rattle.command_line.specs.Plans.{mesh_place, grid_squares, worker_count, build_named, unit_steps}
use Rattle.command_line.specs.Uses.{Use, is_mesh}
use Rattle.command_line.proofs.Reading.{AreRead}
use Rattle.command_line.proofs.Texts.{texts}

-- the text names a mesh, which may stand at any place
abbrev pub NamesMesh : Text → ℕ → Type 0
NamesMesh text place = is_mesh text ≡ true

-- the text is read as the value
abbrev pub ReadsAs : {A : Type 0} → (Text → Option A) → Text → A → Type 0
ReadsAs read text value = read text ≡ Some value

-- each value is that of its text
abbrev pub Pairs : {A : Type 0} → (Text → A → Type 0) → List Text → List A → Type 0
Pairs Fits [] [] = ⊤
Pairs Fits (text ∷ spelled) (value ∷ values) = Fits text value × Pairs Fits spelled values
Pairs Fits _ _ = ⊥

-- the only value is that of the only text
abbrev pub Only : {A : Type 0} → (Text → A → Type 0) → Option Text → List A → Type 0
Only Fits None [] = ⊤
Only Fits (Some text) (value ∷ []) = Fits text value
Only Fits _ _ = ⊥

-- there are as many values as texts
pub as_many : {A : Type 0} (Fits : Text → A → Type 0) (spelled : List Text) (values : List A)
    → Pairs Fits spelled values → length spelled ≡ length values
as_many Fits [] [] fit = refl
as_many Fits (text ∷ spelled) (value ∷ values) fit = let later = as_many Fits spelled values fit.1 in omega arith
as_many Fits _ _ fit = absurd fit

-- of at most one text at most one value is read
pub only : {A : Type 0} (Fits : Text → A → Type 0) (spelled : List Text) (values : List A) → length spelled ≤ 1
    → Pairs Fits spelled values → Only Fits (slice_get spelled 0) values
only Fits [] [] few fit = tt
only Fits (text ∷ []) (value ∷ []) few fit = fit.0
only Fits (text ∷ []) (value ∷ second ∷ values) few fit = absurd fit.1
only Fits (text ∷ next ∷ spelled) values few fit = absurd (omega arith)
only Fits _ _ few fit = absurd fit

-- the values of each argument are those of its texts
pub record IsGathered (uses : List Use) (items : List Item) : Type 0 where
  pub meshes : Pairs NamesMesh (texts None uses) (filter_map mesh_place items)
  pub grids : Pairs (ReadsAs (number_in LEAST_GRID MOST_GRID)) (texts (Some name.Grid) uses)
      (filter_map grid_squares items)
  pub workers : Pairs (ReadsAs (number_in 1 MOST_WORKERS)) (texts (Some name.Workers) uses)
      (filter_map worker_count items)
  pub builds : Pairs (ReadsAs build_of) (texts (Some name.Build) uses) (filter_map build_named items)
  pub units : Pairs (ReadsAs (number_in 1 UNIT_MAX)) (texts (Some name.Unit) uses) (filter_map unit_steps items)

-- so they are where each is
all_five : {uses : List Use} {items : List Item} → Pairs NamesMesh (texts None uses) (filter_map mesh_place items)
    → Pairs (ReadsAs (number_in LEAST_GRID MOST_GRID)) (texts (Some name.Grid) uses) (filter_map grid_squares items)
    → Pairs (ReadsAs (number_in 1 MOST_WORKERS)) (texts (Some name.Workers) uses) (filter_map worker_count items)
    → Pairs (ReadsAs build_of) (texts (Some name.Build) uses) (filter_map build_named items)
    → Pairs (ReadsAs (number_in 1 UNIT_MAX)) (texts (Some name.Unit) uses) (filter_map unit_steps items)
    → IsGathered uses items
all_five meshes grids workers builds units =
    record { meshes = meshes; grids = grids; workers = workers; builds = builds; units = units }

-- the items of uses are gathered
pub gathered : (uses : List Use) (items : List Item) → AreRead uses items → IsGathered uses items
gathered [] [] fit = record { meshes = tt; grids = tt; workers = tt; builds = tt; units = tt }
gathered ((None, text) ∷ uses) (item.Mesh place ∷ items) fit =
    let later = gathered uses items fit.1 in
    all_five (fit.0, later.meshes) later.grids later.workers later.builds later.units
gathered ((Some name.Grid, text) ∷ uses) (item.Grid squares ∷ items) fit =
    let later = gathered uses items fit.1 in
    all_five later.meshes (fit.0, later.grids) later.workers later.builds later.units
gathered ((Some name.Workers, text) ∷ uses) (item.Workers count ∷ items) fit =
    let later = gathered uses items fit.1 in
    all_five later.meshes later.grids (fit.0, later.workers) later.builds later.units
gathered ((Some name.Build, text) ∷ uses) (item.Build named ∷ items) fit =
    let later = gathered uses items fit.1 in
    all_five later.meshes later.grids later.workers (fit.0, later.builds) later.units
gathered ((Some name.Unit, text) ∷ uses) (item.Unit steps ∷ items) fit =
    let later = gathered uses items fit.1 in
    all_five later.meshes later.grids later.workers later.builds (fit.0, later.units)
gathered [] (first ∷ items) fit = absurd fit
gathered (one ∷ uses) [] fit = absurd fit
gathered (one ∷ uses) (first ∷ items) fit = absurd fit.0
