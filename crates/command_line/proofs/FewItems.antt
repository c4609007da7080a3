-- A plan is made of at most four items.
use Rattle.std.proofs.Common.{◌≡◌, ◌+◌, ◌≤◌, List, [], ◌∷◌, length, Some, refl, arith}
use Rattle.std.specs.Prelude.{filter_map}
use Rattle.command_line.specs.Parts.{Item}
use Rattle.command_line.specs.Parts.Item.{Mesh, Grid, Workers, Build, Unit}
use Rattle.command_line.specs.declared.plan.Plan.{Plan}
use Rattle.command_line.specs.Plans.{mesh_place, grid_squares, worker_count, build_named, unit_steps, item_plan}
use Rattle.command_line.proofs.PlanParts.{input_few, made_of, once_few}

-- each item is of one of five kinds
count_kinds : (items : List Item) → length items
    ≡ length (filter_map mesh_place items) + length (filter_map grid_squares items)
    + length (filter_map worker_count items) + length (filter_map build_named items)
    + length (filter_map unit_steps items)
count_kinds [] = refl
count_kinds (Mesh value ∷ items) = let before = count_kinds items in omega arith
count_kinds (Grid value ∷ items) = let before = count_kinds items in omega arith
count_kinds (Workers value ∷ items) = let before = count_kinds items in omega arith
count_kinds (Build value ∷ items) = let before = count_kinds items in omega arith
count_kinds (Unit value ∷ items) = let before = count_kinds items in omega arith

-- a plan is made of at most four items
pub items_few : (items : List Item) (plan : Plan) → item_plan items ≡ Some plan → length items ≤ 4
items_few items plan known =
    let parts = made_of _ _ _ _ plan known in
    let count = count_kinds items in
    let inputs = input_few (filter_map mesh_place items) (filter_map grid_squares items) _ _ parts.input_is in
    let workers = once_few _ (filter_map worker_count items) _ parts.workers_are in
    let builds = once_few _ (filter_map build_named items) _ parts.build_is in
    let units = once_few _ (filter_map unit_steps items) _ parts.unit_is in
    omega arith
