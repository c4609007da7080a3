-- The plan that items make, where they keep the rules.
use Rattle.std.specs.Prelude.{ℕ, ◌<◌, ◌≤◌, List, [], ◌∷◌, filter_map, Option, None, Some, option_and_then}
use Rattle.fixed_box.specs.declared.shapes.TheConstants.{UNIT_MAX}
use Rattle.obj_text.specs.declared.limits.TheConstants.{LEAST_GRID, MOST_GRID}
use Rattle.command_line.specs.Parts.{Item}
use Rattle.command_line.specs.Parts.{Item as item}
use Rattle.command_line.specs.declared.plan.Build.{Build}
use Rattle.command_line.specs.declared.plan.Build.TheVariants.{Karras}
use Rattle.command_line.specs.declared.plan.Input.{Input}
use Rattle.command_line.specs.declared.plan.Input.TheVariants.{File, Grid}
use Rattle.command_line.specs.declared.plan.Plan.{Plan}
use Rattle.command_line.specs.declared.limits.TheConstants.{WORKERS, UNIT, MOST_WORKERS}
use Rattle.command_line.specs.Items.{items_of}

-- ---- what one item says

abbrev pub mesh_place : Item → Option ℕ
mesh_place (item.Mesh place) = Some place
mesh_place _ = None

abbrev pub grid_squares : Item → Option ℕ
grid_squares (item.Grid squares) = Some squares
grid_squares _ = None

abbrev pub worker_count : Item → Option ℕ
worker_count (item.Workers count) = Some count
worker_count _ = None

abbrev pub build_named : Item → Option Build
build_named (item.Build named) = Some named
build_named _ = None

abbrev pub unit_steps : Item → Option ℕ
unit_steps (item.Unit steps) = Some steps
unit_steps _ = None

-- ---- the rules

-- the one that stands, or the default where none does
abbrev pub once_or : {A : Type 0} → A → List A → Option A
once_or default [] = Some default
once_or default (x ∷ []) = Some x
once_or default (x ∷ y ∷ more) = None

-- a MESH word alone, or `grid` alone and no `unit`
abbrev pub input_of : List ℕ → List ℕ → List ℕ → Option Input
input_of (place ∷ []) [] units = Some (File place)
input_of [] (squares ∷ []) [] = Some (Grid squares)
input_of _ _ _ = None

abbrev pub plan_with : Option Input → Option ℕ → Option Build → Option ℕ → Option Plan
plan_with (Some input) (Some workers) (Some build) (Some unit) =
    Some (record { input = input; workers = workers; build = build; unit = unit })
plan_with _ _ _ _ = None

-- the plan that items make
abbrev pub item_plan : List Item → Option Plan
item_plan items = plan_with
    (input_of (filter_map mesh_place items) (filter_map grid_squares items) (filter_map unit_steps items))
    (once_or WORKERS (filter_map worker_count items))
    (once_or Karras (filter_map build_named items))
    (once_or UNIT (filter_map unit_steps items))

-- the plan that words make; they are accepted exactly where there is one
abbrev pub plan_of : List (List ℕ) → Option Plan
plan_of words = option_and_then item_plan (items_of words)

-- ---- what holds of every plan

-- the mesh is named by one of so many words, or the squares of the large workload are in their range
abbrev pub IsInputIn : ℕ → Input → Type 0
IsInputIn count (File place) = place < count
IsInputIn count (Grid squares) = (LEAST_GRID ≤ squares) × (squares ≤ MOST_GRID)

-- the input is of so many words, and the numbers are in their ranges
pub record IsInBounds (count : ℕ) (plan : Plan) : Type 0 where
  pub input : IsInputIn count plan.input
  pub some_workers : 1 ≤ plan.workers
  pub few_workers : plan.workers ≤ MOST_WORKERS
  pub some_unit : 1 ≤ plan.unit
  pub small_unit : plan.unit ≤ UNIT_MAX
