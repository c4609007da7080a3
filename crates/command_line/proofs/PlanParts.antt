-- What a plan says of the parts that it was made of.
use Rattle.std.proofs.Common.{◌≡◌, ℕ, ◌+◌, ◌≤◌, List, [], ◌∷◌, length, Option, Some, refl, subst, arith}
use Rattle.command_line.specs.declared.plan.Build.{Build}
use Rattle.command_line.specs.declared.plan.Input.{Input}
use Rattle.command_line.specs.declared.plan.Plan.{Plan}
use Rattle.command_line.specs.Plans.{once_or, input_of, plan_with}

-- each part is there, and is the plan's
pub record IsMadeOf (input : Option Input) (workers : Option ℕ) (build : Option Build) (unit : Option ℕ)
    (plan : Plan) : Type 0 where
  pub input_is : input ≡ Some plan.input
  pub workers_are : workers ≡ Some plan.workers
  pub build_is : build ≡ Some plan.build
  pub unit_is : unit ≡ Some plan.unit

-- a plan has all its parts
pub made_of : (input : Option Input) (workers : Option ℕ) (build : Option Build) (unit : Option ℕ) (plan : Plan)
    → plan_with input workers build unit ≡ Some plan → IsMadeOf input workers build unit plan
made_of (Some made_input) (Some made_workers) (Some made_build) (Some made_unit) plan known =
    let parts : Plan = record { input = made_input; workers = made_workers; build = made_build; unit = made_unit } in
    let is : parts ≡ plan = cc in
    subst (IsMadeOf (Some made_input) (Some made_workers) (Some made_build) (Some made_unit)) is
    (record { input_is = refl; workers_are = refl; build_is = refl; unit_is = refl })
made_of _ _ _ _ plan known = absurd cc

-- a value is read of at most one
pub once_few : {A : Type 0} (default : A) (values : List A) (value : A) → once_or default values ≡ Some value
    → length values ≤ 1
once_few default (first ∷ second ∷ more) value known = absurd cc
once_few default _ value known = omega arith

-- an input is read of one place or one number
pub input_few : (places grids units : List ℕ) (input : Input) → input_of places grids units ≡ Some input
    → length places + length grids ≤ 1
input_few (place ∷ next_place ∷ places) grids units input known = absurd cc
input_few (place ∷ []) (grid ∷ grids) units input known = absurd cc
input_few [] (grid ∷ next_grid ∷ grids) units input known = absurd cc
input_few _ _ units input known = omega arith
