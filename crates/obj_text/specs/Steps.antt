-- What one line adds to what was read before it. No public clause cites this module.
use Rattle.std.specs.Prelude.{◌≡◌, ⊤, ℕ, Bool, List, Option, ◌∷◌, ◌++◌, nat_lt, nat_le, length, if◌then◌else◌, Result, Ok, Err, true, false}
use Rattle.fixed_box.specs.declared.shapes.Point.{Point}
use Rattle.obj_text.specs.Groups.{with_name}
use Rattle.obj_text.specs.Rows.{Given, onward, points_of, faces_of, position_of, positions_of, fan_from}
use Rattle.obj_text.specs.Names.{known_after}
use Rattle.obj_text.specs.declared.face.Face.{Face}
use Rattle.obj_text.specs.declared.limits.TheConstants.{MOST_FACES}
use Rattle.obj_text.specs.declared.fault.Why.{Why}
use Rattle.obj_text.specs.declared.fault.Why.TheVariants.{TooFewWords, TooManyTriangles}
use Rattle.obj_text.specs.declared.line_fault.LineFault.{LineFault}
use Rattle.obj_text.specs.declared.line_fault.LineFault.TheVariants.{Faulty, Memory}

-- points, faces and a name after a line that gives this
pub record Adds (given : Given) (points more_points : List Point) (faces more_faces : List Face)
    (name next : Option (List ℕ)) : Type 0 where
  pub points_are : more_points ≡ points ++ points_of given
  pub faces_are : more_faces ≡ faces ++ faces_of given
  pub name_is : next ≡ known_after name given

-- the same after a line that was read; after one with a fault it cannot be
abbrev pub IsAdded : Result Given Why → List Point → List Point → List Face → List Face → Option (List ℕ)
    → Option (List ℕ) → Type 0
IsAdded (Ok given) points more_points faces more_faces name next =
    Adds given points more_points faces more_faces name next
IsAdded (Err why) points more_points faces more_faces name next = ⊥

-- the faces behind those that a line adds
abbrev pub extended : List Face → Result Given Why → Result (List Face) Why
extended faces outcome = onward outcome (λ given. Ok (faces ++ faces_of given))

-- a line that is known to leave the current name does so
abbrev pub KeepsName : Option (List ℕ) → Option (List ℕ) → Bool → Type 0
KeepsName name next true = ⊤
KeepsName name next false = next ≡ name

-- the groups behind so many faces of this name
abbrev pub groups_with : List (List ℕ) → List ℕ → ℕ → List (List ℕ)
groups_with groups name faces = if nat_lt 0 faces then with_name groups name else groups

-- faces, if they are not too many
abbrev pub few : List Face → Result (List Face) Why
few faces = if nat_le (length faces) MOST_FACES then Ok faces else Err TooManyTriangles

-- the faces at the end of a line, where these words of it are left, the fan stands at these corners, of which the last
-- two have no triangle yet, and it is known or not that there are too many
abbrev pub fan_left : ℕ → ℕ → Bool → List Face → ℕ → ℕ → ℕ → List (List ℕ) → Result (List Face) Why
fan_left vertices before over faces first last next words =
    onward (positions_of vertices before words) (λ corners.
    if over then Err TooManyTriangles else few (faces ++ fan_from first last (next ∷ corners)))

-- three values, or the fault of the first that has one
abbrev pub all_three : Result ℕ Why → Result ℕ Why → Result ℕ Why → Result (ℕ × ℕ × ℕ) Why
all_three a b c = onward a (λ x. onward b (λ y. onward c (λ z. Ok (x, y, z))))

-- the first three corners of a line
abbrev pub first_corners_of : ℕ → ℕ → List (List ℕ) → Result (ℕ × ℕ × ℕ) Why
first_corners_of vertices before (x ∷ y ∷ z ∷ words) =
    all_three (position_of vertices before x) (position_of vertices before y) (position_of vertices before z)
first_corners_of vertices before words = Err TooFewWords

-- what a refusal of a line says of it; want of memory says nothing
abbrev pub IsLineFault : {A : Type 0} → Result A Why → LineFault → Type 0
IsLineFault outcome (Faulty why) = outcome ≡ Err why
IsLineFault outcome Memory = ⊤

-- an outcome, as one line answers it
abbrev pub IsOutcome : {A : Type 0} → Result A Why → Result A LineFault → Type 0
IsOutcome outcome (Ok value) = outcome ≡ Ok value
IsOutcome outcome (Err (Faulty why)) = outcome ≡ Err why
IsOutcome outcome (Err Memory) = ⊥
