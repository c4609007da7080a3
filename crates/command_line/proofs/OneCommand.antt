-- The command that the words go through, as clap's definitions see it.
use Rattle.std.proofs.Common.{◌≡◌, ◌∙◌, ap, ◌||◌, if◌then◌else◌, Bool, true, false, List, [], ◌∷◌, Option, None, Some, refl, sym, codes}
use Rattle.std.specs.Prelude.{option_map}
use Rattle.std.specs.Str.{bytes_eq}
use Rattle.std.proofs.lemmas.Bool.{false_from_ne_true}
use Rattle.std.proofs.lemmas.Slice.Eq.{bytes_eq-Decides}
use Rattle.clap.specs.Walk.{Rule, Text, arg_by_id, arg_by_long}
use Rattle.clap.specs.Simple.{filled, with_index, is_simple}
use Rattle.clap.specs.Faults.{is_simple_and_free}
use Rattle.command_line.specs.Command.{one_command, mesh_given, option_given}
use Rattle.command_line.specs.Uses.{key_text}
use Rattle.command_line.specs.Values.{name_of}
use Rattle.command_line.specs.Parts.{Name, Name as name}

-- the rule of the MESH word, or of an option
abbrev pub rule_at : Option Name → Rule
rule_at None = with_index 1 (filled mesh_given)
rule_at (Some option_name) = filled (option_given option_name)

-- the rule of the option that a name names
abbrev pub rule_named : Option Name → Option Rule
rule_named reading = option_map (λ option_name. rule_at (Some option_name)) reading

-- all rules, in the command's order
abbrev pub rules_built : List Rule
rules_built = rule_at None ∷ rule_at (Some name.Grid) ∷ rule_at (Some name.Workers) ∷ rule_at (Some name.Build)
    ∷ rule_at (Some name.Unit) ∷ []

-- clap's definitions speak of the command
pub simple : is_simple one_command ≡ true
simple = refl

-- no rule of it names another
pub simple_and_free : is_simple_and_free one_command ≡ true
simple_and_free = refl

-- an id finds its rule
pub by_id : (key : Option Name) → arg_by_id rules_built (key_text key) ≡ Some (rule_at key)
by_id None = refl
by_id (Some name.Grid) = refl
by_id (Some name.Workers) = refl
by_id (Some name.Build) = refl
by_id (Some name.Unit) = refl

-- texts are compared alike either way
turned : (one other : Text) → bytes_eq one other ≡ bytes_eq other one
turned one other = go (bytes_eq one other) refl
  where
    go : (same : Bool) → bytes_eq one other ≡ same → bytes_eq one other ≡ bytes_eq other one
    go true known = known ∙ sym ((bytes_eq-Decides other one).1 (sym ((bytes_eq-Decides one other).0 known)))
    go false known = known ∙ sym (false_from_ne_true _ (λ back.
        let same = (bytes_eq-Decides one other).1 (sym ((bytes_eq-Decides other one).0 back)) in absurd cc))

-- a long name finds the rule that the grammar's name says
by_long : (spelled : Text) → arg_by_long rules_built spelled ≡ rule_named (name_of spelled)
by_long spelled =
    rw (
      turned (codes "grid") spelled,
      turned (codes "workers") spelled,
      turned (codes "build") spelled,
      turned (codes "unit") spelled,
    )
    (go (bytes_eq spelled (codes "grid")) (bytes_eq spelled (codes "workers")) (bytes_eq spelled (codes "build"))
    (bytes_eq spelled (codes "unit")))
  where
    go : (grid workers build unit : Bool)
        → (if grid || false then Some (rule_at (Some name.Grid))
        else (if workers || false then Some (rule_at (Some name.Workers))
        else (if build || false then Some (rule_at (Some name.Build))
        else (if unit || false then Some (rule_at (Some name.Unit)) else None))))
        ≡ rule_named (if grid then Some name.Grid else (if workers then Some name.Workers
        else (if build then Some name.Build else (if unit then Some name.Unit else None))))
    go true workers build unit = refl
    go false true build unit = refl
    go false false true unit = refl
    go false false false true = refl
    go false false false false = refl

-- so it does where it is known which name that is
pub named_rule : (spelled : Text) (reading : Option Name) → name_of spelled ≡ reading
    → arg_by_long rules_built spelled ≡ rule_named reading
named_rule spelled reading known = by_long spelled ∙ ap rule_named known
