-- What a run opens, as its words say: a mesh file, or the large workload.
use Rattle.std.specs.Prelude.{ℕ, List, [], Option, None, Some, option_and_then, slice_index_or}
use Rattle.command_line.specs.declared.plan.Input.{Input}
use Rattle.command_line.specs.declared.plan.Input.TheVariants.{File, Grid}
use Rattle.command_line.specs.Plans.{plan_of}

-- the name of a mesh file, and the grid steps to a unit of mesh and script
pub record Opening : Type 0 where
  pub name : List ℕ
  pub unit : ℕ

abbrev pub opening : List ℕ → ℕ → Opening
opening name unit = record { name = name; unit = unit }

-- the mesh file that an input names, by the word at its place
abbrev pub file_named : List (List ℕ) → ℕ → Input → Option Opening
file_named words unit (File place) = Some (opening (slice_index_or words place []) unit)
file_named words unit (Grid squares) = None

-- the squares along a side of the large workload, where the input is that
abbrev pub squares_of : Input → Option ℕ
squares_of (File place) = None
squares_of (Grid squares) = Some squares

-- the mesh file that words open, if they open one
abbrev pub opening_of : List (List ℕ) → Option Opening
opening_of words = option_and_then (λ plan. file_named words plan.unit plan.input) (plan_of words)

-- the squares of the large workload, if words ask for it
abbrev pub grid_of : List (List ℕ) → Option ℕ
grid_of words = option_and_then (λ plan. squares_of plan.input) (plan_of words)
