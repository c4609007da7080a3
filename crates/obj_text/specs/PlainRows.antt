-- Lines that are read in one pass, each as what the same line gives word by word. No public clause cites this module.
use Rattle.std.specs.Prelude.{◌≡◌, ℕ, ◌+◌, Bool, true, false, List, [], ◌∷◌, length, codes, Ok, Option}
use Rattle.fixed_box.specs.declared.shapes.Point.{Point}
use Rattle.text_words.specs.Joins.{JoinedLine}
use Rattle.text_words.specs.PlainLines.{BeginsWithLine}
use Rattle.text_words.specs.ThreeNumbers.{IsNumber}
use Rattle.obj_text.specs.Rows.{point_of, given_of}
use Rattle.obj_text.specs.Steps.{IsAdded}
use Rattle.obj_text.specs.declared.face.Face.{Face}

-- the text begins with a line of `v` and three words, which write this point, and goes on so
pub record BeginsWithPoint (unit : ℕ) (text : List ℕ) (point : Point) (rest : List ℕ) : Type 0 where
  pub first : List ℕ
  pub second : List ℕ
  pub third : List ℕ
  pub row : BeginsWithLine text (codes "v" ∷ first ∷ second ∷ third ∷ []) rest
  pub point_is : point_of unit first second third ≡ Ok point

-- the text begins with a line of `f` and three numbers, and goes on so
pub record BeginsWithNumbers (text : List ℕ) (a b c : ℕ) (rest : List ℕ) : Type 0 where
  pub first : List ℕ
  pub second : List ℕ
  pub third : List ℕ
  pub row : BeginsWithLine text (codes "f" ∷ first ∷ second ∷ third ∷ []) rest
  pub a_is : IsNumber first a
  pub b_is : IsNumber second b
  pub c_is : IsNumber third c

-- one line is read, in a text with so many vertices, behind so many of them and these faces, and the name stays
pub record ReadsOne (unit vertices before : ℕ) (lines left : List JoinedLine) (points more_points : List Point)
    (faces more_faces : List Face) (name : Option (List ℕ)) : Type 0 where
  pub line : JoinedLine
  pub lines_are : lines ≡ line ∷ left
  pub added : IsAdded (given_of unit vertices before (length faces) line.words)
      points more_points faces more_faces name name

-- none is read
pub record ReadsNone (lines left : List JoinedLine) (points more_points : List Point) (faces more_faces : List Face)
    : Type 0 where
  pub left_are : left ≡ lines
  pub points_are : more_points ≡ points
  pub faces_are : more_faces ≡ faces

-- one is read, or none
abbrev pub ReadsOneIf : Bool → ℕ → ℕ → ℕ → List JoinedLine → List JoinedLine → List Point → List Point → List Face
    → List Face → Option (List ℕ) → Type 0
ReadsOneIf true unit vertices before lines left points more_points faces more_faces name =
    ReadsOne unit vertices before lines left points more_points faces more_faces name
ReadsOneIf false unit vertices before lines left points more_points faces more_faces name =
    ReadsNone lines left points more_points faces more_faces
