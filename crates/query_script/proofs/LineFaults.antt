-- The faults that reading a line may have: none of those that only a world knows.
use Rattle.std.proofs.Common.{ℕ, Bool, true, false, List, ◌==◌, ◌&&◌, length, drop, ℤ, neg_ℤ, Option, None, Some, Result, Ok, Err}
use Rattle.std.specs.Prelude.{int_le, int_lt, if◌then◌else◌, IfErr}
use Rattle.decimals.specs.Values.{grid_of, whole_of}
use Rattle.decimals.specs.declared.fault.NumberFault.{NumberFault}
use Rattle.decimals.specs.declared.fault.NumberFault.TheVariants as number
use Rattle.query_script.specs.declared.limits.TheConstants.{REACH}
use Rattle.fixed_box.specs.declared.shapes.TheConstants.{HALF}
use Rattle.query_script.specs.declared.bounds.Bounds.{Bounds}
use Rattle.query_script.specs.declared.bounds.Bounds.TheVariants as bounds
use Rattle.query_script.specs.declared.keywords.Keyword.{Keyword}
use Rattle.query_script.specs.declared.keywords.Keyword.TheVariants as keyword
use Rattle.query_script.specs.declared.faults.LineFault.{LineFault}
use Rattle.query_script.specs.declared.faults.LineFault.TheVariants.{WrongCount, OutOfRange}
use Rattle.query_script.specs.Asks.{IsOfLine, onward, within, steps_of, coordinate_of, number_or_fault, number_of, first_of, point_of, fields_ask, count_of, counted_ask}

-- the result is no fault, or one that a line alone may have
abbrev pub IsKnown : {A : Type 0} → Result A LineFault → Type 0
IsKnown r = IfErr r IsOfLine

-- a step after a step
known_onward
    : {A B : Type 0} (r : Result A LineFault) (next : A → Result B LineFault)
    → IsKnown r → ((x : A) → IsKnown (next x)) → IsKnown (onward r next)
known_onward (Ok x) next first rest = rest x
known_onward (Err fault) next first rest = first

-- a choice
known_choice
    : {A : Type 0} (b : Bool) (p q : Result A LineFault) → IsKnown p → IsKnown q → IsKnown (if b then p else q)
known_choice true p q first second = first
known_choice false p q first second = second

-- a number
known_number : {A : Type 0} (r : Result A NumberFault) → IsKnown (number_or_fault r)
known_number (Ok n) = tt
known_number (Err number.NotANumber) = tt
known_number (Err number.TooLong) = tt

-- a count of grid steps
known_within : (bounds : Bounds) (steps : ℤ) → IsKnown (within bounds steps)
known_within bounds.Reach steps =
    known_choice (int_le (neg_ℤ REACH) steps && int_le steps REACH) (Ok steps) (Err OutOfRange) tt tt
known_within bounds.World steps =
    known_choice (int_le (neg_ℤ HALF) steps && int_lt steps HALF) (Ok steps) (Err OutOfRange) tt tt

-- a coordinate
known_coordinate : (unit : ℕ) (bounds : Bounds) (word : List ℕ) → IsKnown (coordinate_of unit bounds word)
unfolding steps_of
known_coordinate unit bounds word =
    known_onward (steps_of unit word) (within bounds) (known_number (grid_of unit word)) (known_within bounds)

-- a point
known_point : (unit : ℕ) (bounds : Bounds) (words : List (List ℕ)) → IsKnown (point_of unit bounds words)
known_point unit bounds words =
    let x = first_of words in
    let y = first_of (drop 1 words) in
    let z = first_of (drop 2 words) in
    known_onward (coordinate_of unit bounds x) _ (known_coordinate unit bounds x) (λ a.
    known_onward (coordinate_of unit bounds y) _ (known_coordinate unit bounds y) (λ b.
    known_onward (coordinate_of unit bounds z) _ (known_coordinate unit bounds z) (λ c. tt)))

-- what follows a keyword
known_fields : (unit : ℕ) (k : Keyword) (words : List (List ℕ)) → IsKnown (fields_ask unit k words)
known_fields unit keyword.Box words =
    known_onward (point_of unit bounds.Reach words) _ (known_point unit bounds.Reach words) (λ p.
    known_onward (point_of unit bounds.Reach (drop 3 words)) _ (known_point unit bounds.Reach (drop 3 words)) (λ q. tt))
known_fields unit keyword.Seg words =
    known_onward (point_of unit bounds.World words) _ (known_point unit bounds.World words) (λ p.
    known_onward (point_of unit bounds.World (drop 3 words)) _ (known_point unit bounds.World (drop 3 words)) (λ q. tt))
known_fields unit keyword.Move words =
    known_onward (number_of (first_of words)) _ (known_number (whole_of (first_of words))) (λ n.
    let rest = drop 1 words in
    known_onward (point_of unit bounds.World rest) _ (known_point unit bounds.World rest) (λ to. tt))
known_fields unit keyword.Refit words = tt
known_fields unit keyword.Rebuild words = tt
known_fields unit keyword.Node words =
    known_onward (number_of (first_of words)) _ (known_number (whole_of (first_of words))) (λ n. tt)
known_fields unit keyword.Cells words =
    known_onward (number_of (first_of words)) _ (known_number (whole_of (first_of words))) (λ level. tt)
known_fields unit keyword.Groups words = tt
known_fields unit keyword.Stat words = tt
known_fields unit keyword.Work words = tt

-- a keyword, if it is one, and what follows it
pub known_counted : (unit : ℕ) (k : Option Keyword) (words : List (List ℕ)) → IsKnown (counted_ask unit k words)
known_counted unit None words = tt
known_counted unit (Some k) words =
    let fields = fields_ask unit k words in
    known_choice (length words == count_of k) fields (Err WrongCount) (known_fields unit k words) tt
