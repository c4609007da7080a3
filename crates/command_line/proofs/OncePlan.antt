-- The plan of items that are gathered of uses is that of what was found, where each argument stands once.
use Rattle.std.proofs.Common.{◌≡◌, ℕ, ◌+◌, ◌≤◌, List, [], ◌∷◌, length, Option, None, Some, refl, subst, sym, arith}
use Rattle.std.specs.Prelude.{filter_map, slice_get}
use Rattle.clap.specs.Walk.{Text}
use Rattle.fixed_box.specs.declared.shapes.TheConstants.{UNIT_MAX}
use Rattle.obj_text.specs.declared.limits.TheConstants.{LEAST_GRID, MOST_GRID}
use Rattle.command_line.specs.declared.limits.TheConstants.{MOST_WORKERS, WORKERS, UNIT}
use Rattle.command_line.specs.Parts.{Name, Name as name, Item}
use Rattle.command_line.specs.declared.plan.Build.TheVariants.{Karras}
use Rattle.command_line.specs.declared.plan.Plan.{Plan}
use Rattle.command_line.specs.Values.{number_in, build_of}
use Rattle.command_line.specs.Plans.{mesh_place, grid_squares, worker_count, build_named, unit_steps, once_or, input_of, plan_with, item_plan}
use Rattle.command_line.specs.Uses.{read_or, Use, rows, input_from, row_plan}
use Rattle.command_line.proofs.PlanParts.{input_few, made_of, once_few}
use Rattle.command_line.proofs.Reading.{first_mesh}
use Rattle.command_line.proofs.Texts.{first_text, found_text, texts}
use Rattle.command_line.proofs.FreshOnce.{EachOnce}
use Rattle.command_line.proofs.Gathered.{IsGathered, NamesMesh, Only, Pairs, ReadsAs, as_many, only}

-- the only value that is read, or the default, is that of what was found
same_choice : {A : Type 0} (default : A) (read : Text → Option A) (text : Option Text) (values : List A)
    → Only (ReadsAs read) text values → once_or default values ≡ read_or default read text
same_choice default read None [] are_values = refl
same_choice default read (Some only_text) (value ∷ []) are_values = sym are_values
same_choice default read _ _ are_values = absurd assumption

-- the input is that of what was found
same_input : (mesh grid unit : Option Text) (places squares steps : List ℕ) → Only NamesMesh mesh places
    → Only (ReadsAs (number_in LEAST_GRID MOST_GRID)) grid squares → Only (ReadsAs (number_in 1 UNIT_MAX)) unit steps
    → input_of places squares steps ≡ input_from mesh grid unit (slice_get places 0)
same_input None None unit [] [] steps meshes grids units = refl
same_input None (Some grid) None [] (squares_read ∷ []) [] meshes grids units = rw grids refl
same_input None (Some grid) (Some unit) [] (squares_read ∷ []) (steps_read ∷ []) meshes grids units = refl
same_input (Some mesh) None unit (place ∷ []) [] steps meshes grids units = rw meshes refl
same_input (Some mesh) (Some grid) unit (place ∷ []) (squares_read ∷ []) steps meshes grids units = refl
same_input _ _ _ _ _ _ meshes grids units = absurd assumption

module _ (uses : List Use) (items : List Item) (are : IsGathered uses items) where
  -- an argument with at most one text has at most the one value that was found
  only_found : {A : Type 0} (Fits : Text → A → Type 0) (key : Option Name) (values : List A) → EachOnce uses
      → Pairs Fits (texts key uses) values → Only Fits (found_text key uses) values
  only_found Fits key values once are_values =
      subst (λ found. Only Fits found values) (sym (first_text key uses))
      (only Fits (texts key uses) values (once key) are_values)

  -- what an option chooses is read of what was found
  found_choice : {A : Type 0} (default : A) (read : Text → Option A) (key : Option Name) (values : List A)
      → EachOnce uses → Pairs (ReadsAs read) (texts key uses) values
      → once_or default values ≡ read_or default read (found_text key uses)
  found_choice default read key values once are_values =
      same_choice default read (found_text key uses) values (only_found (ReadsAs read) key values once are_values)

  -- where each argument stands at most once, the plan is that of what was found
  pub once_same : EachOnce uses → item_plan items ≡ row_plan (first_mesh items) (rows uses)
  once_same once =
      let workers = found_choice WORKERS (number_in 1 MOST_WORKERS) (Some name.Workers) (filter_map worker_count items)
      once are.workers in
      let build = found_choice Karras build_of (Some name.Build) (filter_map build_named items) once are.builds in
      let unit = found_choice UNIT (number_in 1 UNIT_MAX) (Some name.Unit) (filter_map unit_steps items)
      once are.units in
      let input =
      same_input (found_text None uses) (found_text (Some name.Grid) uses) (found_text (Some name.Unit) uses)
      (filter_map mesh_place items) (filter_map grid_squares items) (filter_map unit_steps items)
      (only_found NamesMesh None (filter_map mesh_place items) once are.meshes)
      (only_found (ReadsAs (number_in LEAST_GRID MOST_GRID)) (Some name.Grid) (filter_map grid_squares items)
      once are.grids)
      (only_found (ReadsAs (number_in 1 UNIT_MAX)) (Some name.Unit) (filter_map unit_steps items) once are.units) in
      λ step. plan_with (input step) (workers step) (build step) (unit step)

  -- a plan has each argument at most once
  pub plan_once : (plan : Plan) → item_plan items ≡ Some plan → EachOnce uses
  plan_once plan known key =
      let parts = made_of _ _ _ _ plan known in
      let inputs = input_few (filter_map mesh_place items) (filter_map grid_squares items) _ _ parts.input_is in
      go inputs (once_few _ (filter_map worker_count items) _ parts.workers_are)
      (once_few _ (filter_map build_named items) _ parts.build_is)
      (once_few _ (filter_map unit_steps items) _ parts.unit_is) key
    where
      go : length (filter_map mesh_place items) + length (filter_map grid_squares items) ≤ 1
          → length (filter_map worker_count items) ≤ 1 → length (filter_map build_named items) ≤ 1
          → length (filter_map unit_steps items) ≤ 1 → EachOnce uses
      go meshes workers builds units None = let same = as_many _ (texts None uses) _ are.meshes in omega arith
      go meshes workers builds units (Some name.Grid) =
          let same = as_many _ (texts (Some name.Grid) uses) _ are.grids in omega arith
      go meshes workers builds units (Some name.Workers) =
          let same = as_many _ (texts (Some name.Workers) uses) _ are.workers in omega arith
      go meshes workers builds units (Some name.Build) =
          let same = as_many _ (texts (Some name.Build) uses) _ are.builds in omega arith
      go meshes workers builds units (Some name.Unit) =
          let same = as_many _ (texts (Some name.Unit) uses) _ are.units in omega arith
