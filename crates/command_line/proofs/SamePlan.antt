-- The plan of the words is the plan of what a parse by the one command finds.
use Rattle.std.proofs.Common.{◌≡◌, ℕ, Bool, true, false, List, [], Option, None, Some, refl, sym, arith}
use Rattle.std.specs.Prelude.{option_and_then}
use Rattle.clap.specs.Walk.{Text}
use Rattle.command_line.specs.Parts.{Item}
use Rattle.command_line.specs.declared.plan.Plan.{Plan}
use Rattle.command_line.specs.Items.{items_of}
use Rattle.command_line.specs.Plans.{item_plan, plan_of}
use Rattle.command_line.specs.Uses.{Use, fresh, ends, cut, has_dashes, mesh_from, row_plan, given_plan}
use Rattle.command_line.proofs.Reading.{Agree}
use Rattle.command_line.proofs.Grammar.{agree}
use Rattle.command_line.proofs.FreshOnce.{fresh_once}
use Rattle.command_line.proofs.Unread.{unread_none}
use Rattle.command_line.proofs.Gathered.{IsGathered, gathered}
use Rattle.command_line.proofs.OncePlan.{once_same, plan_once}

-- where items and uses agree, so do their plans
plans_agree : (place : Option ℕ) (items : Option (List Item)) (uses : Option (List Use)) → Agree place items uses
    → option_and_then item_plan items ≡ option_and_then (row_plan place) (ends [] uses)
plans_agree place None None agree_so = refl
plans_agree place (Some items) None agree_so = absurd agree_so
plans_agree place None (Some some_uses) agree_so = go (fresh [] some_uses) refl
  where
    go : (new : Bool) → fresh [] some_uses ≡ new
        → (let none : Option Plan = None in none) ≡ option_and_then (row_plan place) (ends [] (Some some_uses))
    go false new = rw new refl
    go true new =
        rw new (sym (unread_none place some_uses ((fresh_once [] some_uses (λ key. omega arith)).0 new) agree_so))
plans_agree place (Some items) (Some some_uses) agree_so = go (fresh [] some_uses) refl
  where
    are : IsGathered some_uses items
    are = gathered some_uses items agree_so.0

    none : fresh [] some_uses ≡ false → (answer : Option Plan) → item_plan items ≡ answer → answer ≡ None
    none new None known = refl
    none new (Some plan) known =
        let fresh_too : fresh [] some_uses ≡ true
        = (fresh_once [] some_uses (λ key. omega arith)).1 (plan_once some_uses items are plan known) in
        absurd cc

    go : (new : Bool) → fresh [] some_uses ≡ new
        → item_plan items ≡ option_and_then (row_plan place) (ends [] (Some some_uses))
    go false new = rw new (none new (item_plan items) refl)
    go true new =
        let same = once_same some_uses items are ((fresh_once [] some_uses (λ key. omega arith)).0 new) in
        rw (new, agree_so.1) same

-- the plan of the words is the plan that is given
pub same_plan : (words : List Text) → has_dashes words ≡ false → plan_of words ≡ given_plan words
same_plan words plain =
    plans_agree (mesh_from false 0 words) (items_of words) (cut None words) (agree None 0 words plain)
