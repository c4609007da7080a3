-- Uses of which one says nothing that is accepted: they make no plan.
use Rattle.std.proofs.Common.{◌≡◌, ◌∙◌, ℕ, Bool, true, false, List, [], ◌∷◌, suc, Option, None, Some, refl, arith}
use Rattle.std.specs.Prelude.{slice_get}
use Rattle.std.proofs.Common.{inl, inr}
use Rattle.std.proofs.lemmas.Option.{slice_get_within}
use Rattle.clap.specs.Walk.{Text}
use Rattle.fixed_box.specs.declared.shapes.TheConstants.{UNIT_MAX}
use Rattle.obj_text.specs.declared.limits.TheConstants.{LEAST_GRID, MOST_GRID}
use Rattle.command_line.specs.declared.limits.TheConstants.{MOST_WORKERS, WORKERS, UNIT}
use Rattle.command_line.specs.Parts.{Name, Name as name}
use Rattle.command_line.specs.declared.plan.Build.TheVariants.{Karras}
use Rattle.command_line.specs.declared.plan.Input.{Input}
use Rattle.command_line.specs.declared.plan.Input.TheVariants.{Grid}
use Rattle.command_line.specs.declared.plan.Plan.{Plan}
use Rattle.command_line.specs.Values.{number_in, build_of}
use Rattle.command_line.specs.Uses.{read_or, Use, rows, input_from, is_mesh, plan_from, row_plan}
use Rattle.command_line.proofs.Options.{mapped}
use Rattle.command_line.proofs.PlanParts.{IsMadeOf, made_of}
use Rattle.command_line.proofs.Reading.{HasUnread, SaysNothing}
use Rattle.command_line.proofs.Texts.{first_text, found_text, same_key, same_self, texts}
use Rattle.command_line.proofs.FreshOnce.{EachOnce}

-- the text of a use that says nothing
unread_text : (uses : List Use) → HasUnread uses
    → (key : Option Name) × (text : Text) × (index : ℕ) × SaysNothing key text
    × (slice_get (texts key uses) index ≡ Some text)
unread_text [] has = absurd has
unread_text (one ∷ uses) (inl silent) = (one.0, one.1, 0, silent, rw (same_self one.0) refl)
unread_text (one ∷ uses) (inr has) = go (unread_text uses has) (same_key one.0 (unread_text uses has).0) refl
  where
    Found : List Use → Type 0
    Found list = (key : Option Name) × (text : Text) × (index : ℕ) × SaysNothing key text
        × (slice_get (texts key list) index ≡ Some text)

    go : (found_use : Found uses) (is : Bool) → same_key one.0 found_use.0 ≡ is → Found (one ∷ uses)
    go found_use true known = (found_use.0, found_use.1, suc found_use.2, found_use.3, rw known found_use.4)
    go found_use false known = (found_use.0, found_use.1, found_use.2, found_use.3, rw known found_use.4)

-- no file is named by a word that names no mesh
no_file : (text : Text) (grid unit : Option Text) (place : Option ℕ) (input : Input) → is_mesh text ≡ false
    → input_from (Some text) grid unit place ≡ Some input → ⊥
no_file text None unit place input silent known =
    let no : (let none : Option Input = None in none) ≡ Some input = rw silent at known in cc
no_file text (Some grid) unit place input silent known = cc

-- no number of squares is that of a text that is not read
no_squares : (mesh : Option Text) (text : Text) (unit : Option Text) (place : Option ℕ) (input : Input)
    → number_in LEAST_GRID MOST_GRID text ≡ None → input_from mesh (Some text) unit place ≡ Some input → ⊥
no_squares None text None place input silent known = let made = mapped Grid _ input known in cc
no_squares _ text _ place input silent known = cc

-- no plan has a text that says nothing
no_plan : (place : Option ℕ) (found : Option Name → Option Text) (plan : Plan) (key : Option Name) (text : Text)
    → SaysNothing key text → found key ≡ Some text
    → plan_from place (found None) (found (Some name.Grid)) (found (Some name.Workers)) (found (Some name.Build))
    (found (Some name.Unit)) ≡ Some plan → ⊥
no_plan place found plan key text silent is known = go key silent is (made_of _ _ _ _ plan known)
  where
    go : (key : Option Name) → SaysNothing key text → found key ≡ Some text
        → IsMadeOf (input_from (found None) (found (Some name.Grid)) (found (Some name.Unit)) place)
        (read_or WORKERS (number_in 1 MOST_WORKERS) (found (Some name.Workers)))
        (read_or Karras build_of (found (Some name.Build)))
        (read_or UNIT (number_in 1 UNIT_MAX) (found (Some name.Unit)))
        plan → ⊥
    go None silent is parts = no_file text _ _ place plan.input silent (rw is at parts.input_is)
    go (Some name.Grid) silent is parts = no_squares _ text _ place plan.input silent (rw is at parts.input_is)
    go (Some name.Workers) silent is parts =
        let read : number_in 1 MOST_WORKERS text ≡ Some plan.workers = rw is at parts.workers_are in cc
    go (Some name.Build) silent is parts = let read : build_of text ≡ Some plan.build = rw is at parts.build_is in cc
    go (Some name.Unit) silent is parts =
        let read : number_in 1 UNIT_MAX text ≡ Some plan.unit = rw is at parts.unit_is in cc

-- so nothing is planned of uses with such a one
pub unread_none : (place : Option ℕ) (uses : List Use) → EachOnce uses → HasUnread uses
    → row_plan place (rows uses) ≡ None
unread_none place uses once has = go (row_plan place (rows uses)) refl
  where
    go : (answer : Option Plan) → row_plan place (rows uses) ≡ answer → answer ≡ None
    go None known = refl
    go (Some plan) known =
        let unread = unread_text uses has in
        let few = once unread.0 in
        let within = slice_get_within (texts unread.0 uses) unread.2 unread.1 unread.4 in
        let first : unread.2 ≡ 0 = omega arith in
        let is : slice_get (texts unread.0 uses) 0 ≡ Some unread.1 = rw (← first) unread.4 in
        absurd (no_plan place (λ key. found_text key uses) plan unread.0 unread.1 unread.3
        (first_text unread.0 uses ∙ is) known)
