-- What words open that name a mesh file, from the plan that they make.
use Rattle.std.proofs.Common.{◌≡◌, ℕ, List, [], ap, sym, ◌∙◌, get_or, None, Some}
use Rattle.std.specs.Prelude.{option_and_then}
use Rattle.command_line.specs.declared.plan.Input.TheVariants.{File}
use Rattle.command_line.specs.declared.plan.Plan.{Plan}
use Rattle.command_line.specs.Plans.{plan_of}
use Rattle.world_engine.specs.Words.{opening, file_named, squares_of, opening_of, grid_of}

module _ (texts : List (List ℕ)) (plan : Plan) (is : plan_of texts ≡ Some plan) where
  -- a plan over a mesh file opens that file
  pub file_opens : (place : ℕ) (name : List ℕ) → plan.input ≡ File place → name ≡ get_or texts place []
      → opening_of texts ≡ Some (opening name plan.unit)
  file_opens place name file e =
      ap (option_and_then (λ plan. file_named texts plan.unit plan.input)) is
      ∙ ap (file_named texts plan.unit) file ∙ ap (λ n. Some (opening n plan.unit)) (sym e)

  -- and asks for no large workload
  pub file_is_no_grid : (place : ℕ) → plan.input ≡ File place → grid_of texts ≡ None
  file_is_no_grid place file = ap (option_and_then (λ plan. squares_of plan.input)) is ∙ ap squares_of file
