-- The one command tried at lists of words that are written out.
use Rattle.std.proofs.Common.{◌≡◌, true, false, [], ◌∷◌, map, Some, refl, codes}
use Rattle.clap.specs.Walk.{first_of}
use Rattle.clap.specs.Simple.{matches_of}
use Rattle.clap.specs.Takes.{takes}
use Rattle.clap.proofs.OnLiterals.{clap_on_literals}
use Rattle.command_line.specs.Command.{one_command}

-- taken: a value behind `=`, an empty value, and the value `-` beside the word `-`
taken : map (takes one_command) (
    (codes "--unit=4" ∷ codes "a.obj" ∷ []) ∷ (codes "a" ∷ codes "--unit" ∷ codes "" ∷ [])
    ∷ (codes "--unit" ∷ codes "-" ∷ codes "-" ∷ []) ∷ []) ≡ true ∷ true ∷ true ∷ []
unfolding clap_on_literals
taken = refl

-- not taken: another value that begins with `-`, an option twice or without a value, a name cut short, two MESH words
not_taken : map (takes one_command) (
    (codes "--unit" ∷ codes "-1" ∷ []) ∷ (codes "--unit" ∷ codes "1" ∷ codes "--unit=2" ∷ [])
    ∷ (codes "a" ∷ codes "--unit" ∷ []) ∷ (codes "--un=1" ∷ codes "a" ∷ []) ∷ (codes "a" ∷ codes "b" ∷ []) ∷ [])
    ≡ false ∷ false ∷ false ∷ false ∷ false ∷ []
unfolding clap_on_literals
not_taken = refl

-- the value begins behind the first `=`
value_with_equals : first_of (codes "unit") (matches_of one_command (codes "--unit=1=2" ∷ codes "" ∷ []))
    ≡ Some (codes "1=2")
unfolding clap_on_literals
value_with_equals = refl
