-- Lines that stand behind others, and those of a whole text.
use Rattle.std.proofs.Common.{◌≡◌, ◌≤◌, ℕ, ◌+◌, List, [], ◌∷◌, length, cond, refl, ap, ◌∙◌, arith}
use Rattle.text_words.specs.Joins.{JoinedLine}
use Rattle.obj_text.specs.Rows.{given_of, is_vertex}
use Rattle.obj_text.specs.Texts.{Reading, readings, faces_read}
use Rattle.obj_text.specs.Places.{before, place_behind, readings_at}
use Rattle.obj_text.specs.declared.place.Place.{Place}
use Rattle.obj_text.specs.declared.place.Place.TheVariants.{Behind, Anywhere}

-- a line stands behind no more vertices than a later one
pub before_less : (place : Place) (points more : ℕ) → before place points ≤ before place (points + more)
before_less (Behind vertices) points more = omega arith
before_less Anywhere points more = omega arith

-- where so many more fit behind it, they fit behind the later one
pub before_fits : (place : Place) (points more most : ℕ) → before place points ≤ most
    → before place points + more ≤ most → before place (points + more) ≤ most
before_fits (Behind vertices) points more most here there = omega (arith, there)
before_fits Anywhere points more most here there = here

-- where lines follow so many vertices of a part, a line is read behind those too
pub before_behind : (place : Place) (first points : ℕ)
    → before place (first + points) ≡ before (place_behind place first) points
before_behind (Behind vertices) first points = omega arith
before_behind Anywhere first points = refl

-- so lines that follow so many vertices of a part give what they give as a part of their own, behind those
pub readings_later : (unit vertices : ℕ) (place : Place) (first points triangles : ℕ) (lines : List JoinedLine)
    → readings_at unit vertices place (first + points) triangles lines
    ≡ readings_at unit vertices (place_behind place first) points triangles lines
readings_later unit vertices place first points triangles [] = refl
readings_later unit vertices place first points triangles (line ∷ lines) =
    let one : ℕ = cond (is_vertex line.words) 1 0 in
    let next : first + points + one ≡ first + (points + one) = omega arith in
    let given = given_of unit vertices (before (place_behind place first) points) triangles line.words in
    let later = λ (b n : ℕ). record { number = line.number; given = given_of unit vertices b triangles line.words }
    ∷ readings_at unit vertices place n
    (triangles + length (faces_read (given_of unit vertices b triangles line.words))) lines in
    ap (λ b. later b (first + points + one)) (before_behind place first points)
    ∙ ap (later (before (place_behind place first) points)) next
    ∙ ap (λ rest. record { number = line.number; given = given } ∷ rest)
    (readings_later unit vertices place first (points + one) (triangles + length (faces_read given)) lines)

-- lines that stand behind so many vertices are read so
pub readings_there : (unit vertices first points triangles : ℕ) (lines : List JoinedLine)
    → readings_at unit vertices (Behind first) points triangles lines
    ≡ readings unit vertices (first + points) triangles lines
readings_there unit vertices first points triangles [] = refl
readings_there unit vertices first points triangles (line ∷ lines) =
    let one : ℕ = cond (is_vertex line.words) 1 0 in
    let given = given_of unit vertices (first + points) triangles line.words in
    let t = triangles + length (faces_read given) in
    let next : first + (points + one) ≡ first + points + one = omega arith in
    ap (λ rest. record { number = line.number; given = given } ∷ rest)
    (readings_there unit vertices first (points + one) t lines
    ∙ ap (λ k. readings unit vertices k t lines) next)
