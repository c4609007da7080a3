-- The rows of uses: what one more use adds to them, and whether clap lets it pass.
use Rattle.std.proofs.Common.{◌≡◌, ◌∙◌, ap, not, Bool, true, false, if◌then◌else◌, List, [], ◌∷◌, ◌++◌, Option, None, Some, refl, sym}
use Rattle.std.specs.Prelude.{option_map}
use Rattle.std.specs.Str.{bytes_eq}
use Rattle.std.proofs.lemmas.List.{append-nil, append_assoc, map-append}
use Rattle.clap.specs.Walk.{Row, Text, at_row, more_values, has_row, used}
use Rattle.clap.specs.Kinds.{Kinds}
use Rattle.clap.specs.Faults.{use_fault}
use Rattle.clap.specs.Takes.{use_passes}
use Rattle.clap.specs.declared.parser.matches.ValueSource.TheVariants.{CommandLine}
use Rattle.command_line.specs.Parts.{Name}
use Rattle.command_line.specs.Uses.{key_text, Use, use_row, rows, seen, fresh, ends}
use Rattle.command_line.proofs.OneCommand.{rule_at}

-- a list has no fault
abbrev pub clear : Kinds → Bool
clear [] = true
clear (fault ∷ faults) = false

-- a change of a row that is not there puts the missing rows behind all
put_absent : (id : Text) (change : Row → List Row) (missing later_rows : List Row) → has_row id later_rows ≡ false
    → at_row id change missing later_rows ≡ later_rows ++ missing
put_absent id change missing [] known = refl
put_absent id change missing (row ∷ later_rows) known =
    go (bytes_eq row.id id) refl (put_absent id change missing later_rows)
  where
    go : (is : Bool) → bytes_eq row.id id ≡ is
        → (has_row id later_rows ≡ false → at_row id change missing later_rows ≡ later_rows ++ missing)
        → at_row id change missing (row ∷ later_rows) ≡ (row ∷ later_rows) ++ missing
    go true is later = let no : true ≡ false = rw is at known in absurd cc
    go false is later =
        let rest : has_row id later_rows ≡ false = rw is at known in rw is (ap (λ all. row ∷ all) (later rest))

-- the use of an argument that was not seen adds its row
pub used_absent : (key : Option Name) (text : Text) (uses : List Use) → seen key uses ≡ false
    → used (rule_at key) (text ∷ []) (rows uses) ≡ rows (uses ++ (key, text) ∷ [])
used_absent key text uses known = replaced key ∙ ap put without_it
    ∙ put_absent (key_text key) (more_values CommandLine (text ∷ [])) (use_row (key, text) ∷ []) (rows uses) known
    ∙ sym (map-append use_row uses ((key, text) ∷ []))
  where
    put : List Row → List Row
    put = at_row (key_text key) (more_values CommandLine (text ∷ [])) (use_row (key, text) ∷ [])

    without_it : at_row (key_text key) (λ _. []) [] (rows uses) ≡ rows uses
    without_it = put_absent (key_text key) (λ _. []) [] (rows uses) known ∙ append-nil (rows uses)

    replaced : (other : Option Name) → used (rule_at other) (text ∷ []) (rows uses)
        ≡ at_row (key_text other) (more_values CommandLine (text ∷ [])) (use_row (other, text) ∷ [])
        (at_row (key_text other) (λ _. []) [] (rows uses))
    replaced None = refl
    replaced (Some option_name) = refl

-- the use of an argument passes where that was not seen, and has no fault there
pub use_once : (key : Option Name) (text : Text) (uses : List Use)
    → (use_passes false (rule_at key) (text ∷ []) (rows uses) ≡ not (seen key uses))
    × (clear (use_fault false (rule_at key) (text ∷ []) (rows uses)) ≡ not (seen key uses))
use_once key text uses = go key (seen key uses) refl
  where
    go : (other : Option Name) (is : Bool) → seen other uses ≡ is
        → (use_passes false (rule_at other) (text ∷ []) (rows uses) ≡ not (seen other uses))
        × (clear (use_fault false (rule_at other) (text ∷ []) (rows uses)) ≡ not (seen other uses))
    go None true known = (rw known refl, rw known refl)
    go None false known = (rw known refl, rw known refl)
    go (Some option_name) true known = (rw known refl, rw known refl)
    go (Some option_name) false known = (rw known refl, rw known refl)

-- what uses end in with one more before the rest
pub ends_more : (uses : List Use) (one : Use) (rest : Option (List Use))
    → ends uses (option_map (λ later. one ∷ later) rest)
    ≡ (if seen one.0 uses then None else ends (uses ++ one ∷ []) rest)
ends_more uses one rest = go (seen one.0 uses) refl rest
  where
    go : (is : Bool) → seen one.0 uses ≡ is → (rest : Option (List Use))
        → ends uses (option_map (λ later. one ∷ later) rest)
        ≡ (if seen one.0 uses then None else ends (uses ++ one ∷ []) rest)
    go true known None = rw known refl
    go false known None = rw known refl
    go true known (Some later) = rw known refl
    go false known (Some later) =
        rw known (ap (λ (all : List Use). if fresh (uses ++ one ∷ []) later then Some (rows all) else None)
        (sym (append_assoc uses (one ∷ []) later)))
