-- What holds of every plan: its place is that of a word, and its numbers are in their ranges.
use Rattle.std.proofs.Common.{◌≡◌, ℕ, ◌+◌, ◌==◌, ◌≤◌, ◌<◌, ◌&&◌, not, Bool, true, false, if◌then◌else◌, List, [], ◌∷◌, length, Option, None, Some, Result, Ok, subst, arith, codes, nat_le, nat_lt}
use Rattle.std.specs.List.{list_any}
use Rattle.std.proofs.lemmas.Bool.{and_parts, leb-true}
use Rattle.decimals.specs.Values.{whole_of}
use Rattle.decimals.specs.declared.fault.NumberFault.{NumberFault}
use Rattle.text_words.specs.Numbers.{starts_minus}
use Rattle.clap.specs.Walk.{Row, Text, first_of}
use Rattle.fixed_box.specs.declared.shapes.TheConstants.{UNIT_MAX}
use Rattle.obj_text.specs.declared.limits.TheConstants.{LEAST_GRID, MOST_GRID}
use Rattle.command_line.specs.declared.limits.TheConstants.{MOST_DIGITS, MOST_WORKERS, WORKERS, UNIT}
use Rattle.command_line.specs.declared.plan.Input.{Input}
use Rattle.command_line.specs.declared.plan.Input.TheVariants.{File, Grid}
use Rattle.command_line.specs.declared.plan.Plan.{Plan}
use Rattle.command_line.specs.Values.{within, number_in}
use Rattle.command_line.specs.Plans.{IsInputIn, IsInBounds}
use Rattle.command_line.specs.Uses.{input_from, is_mesh, mesh_from, read_or, row_plan}
use Rattle.command_line.proofs.Options.{chosen, mapped}
use Rattle.command_line.proofs.PlanParts.{made_of}

-- a number that is read is in its range
number_bounds : (least most : ℕ) (text : Text) (number : ℕ) → number_in least most text ≡ Some number
    → (least ≤ number) × (number ≤ most)
number_bounds least most text number known = go (nat_lt MOST_DIGITS (length text)) (whole_of text) known
  where
    go : (long : Bool) (result : Result ℕ NumberFault) → (if long then None else within least most result) ≡ Some number
        → (least ≤ number) × (number ≤ most)
    go false (Ok read) holds =
        let tests = chosen (nat_le least read && nat_le read most) (Some read) number holds in
        let both = and_parts (nat_le least read) (nat_le read most) tests.0 in
        let low = leb-true least read both.0 in
        let high = leb-true read most both.1 in
        let same : read ≡ number = cc in
        (omega arith, omega arith)
    go _ _ holds = absurd cc

-- a number that is read, or its default, is in its range
choice_bounds : (default most : ℕ) (text : Option Text) (number : ℕ) → 1 ≤ default → default ≤ most
    → read_or default (number_in 1 most) text ≡ Some number → (1 ≤ number) × (number ≤ most)
choice_bounds default most None number low high known = let same : default ≡ number = cc in (omega arith, omega arith)
choice_bounds default most (Some text) number low high known = number_bounds 1 most text number known

-- the place of the MESH word is that of a word
mesh_within : (is_value : Bool) (from : ℕ) (words : List Text) (place : ℕ)
    → mesh_from is_value from words ≡ Some place → place < from + length words
mesh_within is_value from [] place known = absurd cc
mesh_within true from (word ∷ words) place known =
    let later = mesh_within false (from + 1) words place known in omega arith
mesh_within false from (word ∷ words) place known = go (starts_minus word) (mesh_within _ (from + 1) words place) known
  where
    next : Option ℕ
    next = mesh_from (not (list_any (λ byte. byte == 61) word)) (from + 1) words

    go : (minus : Bool) → (next ≡ Some place → place < from + 1 + length words)
        → (if minus then next else Some from) ≡ Some place → place < from + length (word ∷ words)
    go true later holds = let bound = later holds in omega arith
    go false later holds = let same : from ≡ place = cc in omega arith

-- the input is of the words, or its number is in its range
input_bounds : (count : ℕ) (mesh grid unit : Option Text) (place : Option ℕ) (input : Input)
    → ((at : ℕ) → place ≡ Some at → at < count) → input_from mesh grid unit place ≡ Some input
    → IsInputIn count input
input_bounds count (Some mesh) None unit place input inside known =
    let file = mapped File place input (chosen (is_mesh mesh) _ input known).1 in
    subst (IsInputIn count) file.2 (inside file.0 file.1)
input_bounds count None (Some grid) None place input inside known =
    let squares = mapped Grid (number_in LEAST_GRID MOST_GRID grid) input known in
    subst (IsInputIn count) squares.2 (number_bounds LEAST_GRID MOST_GRID grid squares.0 squares.1)
input_bounds count _ _ _ place input inside known = absurd cc

-- so every plan is in its bounds
pub in_bounds : (words : List Text) (found_rows : List Row) (plan : Plan)
    → row_plan (mesh_from false 0 words) found_rows ≡ Some plan → IsInBounds (length words) plan
in_bounds words found_rows plan known =
    let first : Text → Option Text = λ id. first_of id found_rows in
    let worker_bounds =
    choice_bounds WORKERS MOST_WORKERS (first (codes "workers")) plan.workers (omega arith) (omega arith) in
    let unit_bounds = choice_bounds UNIT UNIT_MAX (first (codes "unit")) plan.unit (omega arith) (omega arith) in
    let parts = made_of _ _ _ _ plan known in
    let workers = worker_bounds parts.workers_are in
    let unit = unit_bounds parts.unit_is in
    record {
      input = input_bounds (length words) (first (codes "mesh")) (first (codes "grid")) (first (codes "unit")) _
          plan.input (λ place is. let bound = mesh_within false 0 words place is in omega arith) parts.input_is;
      some_workers = workers.0;
      few_workers = workers.1;
      some_unit = unit.0;
      small_unit = unit.1;
    }
