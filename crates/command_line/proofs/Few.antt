-- An accepted list has few words: each option stands at most once, and each item has at most two words.
use Rattle.std.proofs.Common.{◌≡◌, ℕ, ◌≤◌, ◌<◌, List, length, Option, None, Some, refl, arith}
use Rattle.std.proofs.lemmas.Option.{option_and_then_some}
use Rattle.command_line.specs.declared.limits.TheConstants.{MOST_WORDS}
use Rattle.command_line.specs.declared.plan.Plan.{Plan}
use Rattle.command_line.specs.Items.{items_of}
use Rattle.command_line.specs.Plans.{item_plan, plan_of}
use Rattle.command_line.proofs.CoveredWords.{covered}
use Rattle.command_line.proofs.FewItems.{items_few}

-- a list with a plan has at most eight words
words_few : (words : List (List ℕ)) (plan : Plan) → plan_of words ≡ Some plan → length words ≤ MOST_WORDS
words_few words plan known = option_and_then_some item_plan (items_of words) plan known (λ items are made.
    let twice = covered None 0 words items are in let four = items_few items plan made in omega arith)

-- longer lists are refused
pub many_refused : (words : List (List ℕ)) → MOST_WORDS < length words → plan_of words ≡ None
many_refused words many = go (plan_of words) refl
  where
    go : (answer : Option Plan) → plan_of words ≡ answer → answer ≡ None
    go None is = refl
    go (Some plan) is = let few = words_few words plan is in absurd (omega arith)
