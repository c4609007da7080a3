-- Lines read behind triangles: while there is room for theirs too, they give what they give behind fewer.
use Rattle.std.proofs.Common.{◌≡◌, ℕ, ◌+◌, ◌≤◌, Bool, true, false, List, [], ◌∷◌, ◌++◌, length, cond, refl, ap, ◌∙◌, length-append, arith, Ok, Err, Result}
use Rattle.std.specs.Prelude.{codes, ◌||◌, nat_le, Option, None}
use Rattle.std.specs.Str.{bytes_eq}
use Rattle.std.proofs.lemmas.Bool.Decides.{nat_tests}
use Rattle.text_words.specs.Joins.{JoinedLine}
use Rattle.obj_text.specs.Rows.{Given, Nothing, Triangles, GroupName, onward, positions_of, fan, more_triangles, vertex_of, triangles_of, name_of, given_of, is_vertex}
use Rattle.obj_text.specs.Places.{before, readings_at}
use Rattle.obj_text.specs.declared.place.Place.{Place}
use Rattle.obj_text.specs.Texts.{faces_in, first_faulty, fault_or, faces_read, FaultyLine}
use Rattle.obj_text.specs.declared.face.Face.{Face}
use Rattle.obj_text.specs.declared.fault.Why.{Why}
use Rattle.obj_text.specs.declared.fault.Why.TheVariants.{TooManyTriangles}
use Rattle.obj_text.specs.declared.limits.TheConstants.{MOST_FACES}

-- there is room behind so many triangles for those that a line without a fault gives
abbrev HasRoom : ℕ → Result Given Why → Type 0
HasRoom triangles outcome = triangles + length (faces_read outcome) ≤ MOST_FACES

-- the outcome is no fault
abbrev IsGiven : Result Given Why → Type 0
IsGiven (Ok given) = Unit {0}
IsGiven (Err why) = ⊥

-- triangles for which there is room, where the test for room is known
more_by : (k more : Bool) (faces : List Face) (before : ℕ)
    → IsGiven (cond k (Ok (Triangles faces)) (Err TooManyTriangles))
    → HasRoom before (cond k (Ok (Triangles faces)) (Err TooManyTriangles))
    → (before + length faces ≤ MOST_FACES → more ≡ true)
    → cond more (Ok (Triangles faces)) (Err TooManyTriangles) ≡ cond k (Ok (Triangles faces)) (Err TooManyTriangles)
more_by true more faces before given room f =
    ap (λ k. cond k (Ok (Triangles faces)) (Err TooManyTriangles)) (f room)
more_by false more faces before given room f = absurd given

-- triangles behind more others
corners_behind : (k triangles : ℕ) (corners : Result (List ℕ) Why)
    → IsGiven (onward corners (λ all. more_triangles triangles (fan all)))
    → HasRoom (k + triangles) (onward corners (λ all. more_triangles triangles (fan all)))
    → onward corners (λ all. more_triangles (k + triangles) (fan all))
    ≡ onward corners (λ all. more_triangles triangles (fan all))
corners_behind k triangles (Err why) given room = refl
corners_behind k triangles (Ok all) given room =
    more_by (nat_le (triangles + length (fan all)) MOST_FACES)
    (nat_le (k + triangles + length (fan all)) MOST_FACES) (fan all) (k + triangles) given room
    (λ h. grind (arith, nat_tests, h))

-- a line that begins with `f` and has no fault gives the same behind more triangles
triangles_behind : (k vertices before triangles : ℕ) (words : List (List ℕ))
    → IsGiven (triangles_of vertices before triangles words)
    → HasRoom (k + triangles) (triangles_of vertices before triangles words)
    → triangles_of vertices before (k + triangles) words ≡ triangles_of vertices before triangles words
triangles_behind k vertices before triangles [] given room = refl
triangles_behind k vertices before triangles (x ∷ []) given room = refl
triangles_behind k vertices before triangles (x ∷ y ∷ []) given room = refl
triangles_behind k vertices before triangles (x ∷ y ∷ z ∷ words) given room =
    corners_behind k triangles (positions_of vertices before (x ∷ y ∷ z ∷ words)) given room

-- what a line gives by the tests of its first word
abbrev by_tests : Bool → Bool → Bool → ℕ → ℕ → ℕ → ℕ → List (List ℕ) → Result Given Why
by_tests v f g unit vertices before triangles words =
    cond v (vertex_of unit before words) (cond f (triangles_of vertices before triangles words)
    (cond g (Ok (GroupName (name_of words))) (Ok Nothing)))

-- so does a line by the tests of its first word
by_keyword : (v f g : Bool) (k unit vertices before triangles : ℕ) (words : List (List ℕ))
    → IsGiven (by_tests v f g unit vertices before triangles words)
    → HasRoom (k + triangles) (by_tests v f g unit vertices before triangles words)
    → by_tests v f g unit vertices before (k + triangles) words ≡ by_tests v f g unit vertices before triangles words
by_keyword true f g k unit vertices before triangles words given room = refl
by_keyword false true g k unit vertices before triangles words given room =
    triangles_behind k vertices before triangles words given room
by_keyword false false g k unit vertices before triangles words given room = refl

-- a line without a fault gives the same behind more triangles
given_behind : (k unit vertices before triangles : ℕ) (words : List (List ℕ))
    → IsGiven (given_of unit vertices before triangles words)
    → HasRoom (k + triangles) (given_of unit vertices before triangles words)
    → given_of unit vertices before (k + triangles) words ≡ given_of unit vertices before triangles words
given_behind k unit vertices before triangles [] given room = refl
given_behind k unit vertices before triangles (keyword ∷ words) given room =
    by_keyword (bytes_eq keyword (codes "v")) (bytes_eq keyword (codes "f"))
    (bytes_eq keyword (codes "g") || bytes_eq keyword (codes "o")) k unit vertices before triangles words given room

-- where no line has a fault, the first has none, nor has any behind it
faultless_by : (number : ℕ) (given : Result Given Why) (later : Option FaultyLine)
    → fault_or number given later ≡ None → IsGiven given × (later ≡ None)
faultless_by number (Ok given) later e = (tt, e)
faultless_by number (Err why) later e = absurd (cc)

-- lines without a fault give the same behind so many triangles more, if there is room for theirs
pub readings_behind : (k unit vertices : ℕ) (place : Place) (points triangles : ℕ) (lines : List JoinedLine)
    → first_faulty (readings_at unit vertices place points triangles lines) ≡ None
    → k + triangles + length (faces_in (readings_at unit vertices place points triangles lines)) ≤ MOST_FACES
    → readings_at unit vertices place points (k + triangles) lines ≡ readings_at unit vertices place points triangles lines
readings_behind k unit vertices place points triangles [] e room = refl
readings_behind k unit vertices place points triangles (line ∷ lines) e room =
    let given = given_of unit vertices (before place points) triangles line.words in
    let b = points + cond (is_vertex line.words) 1 0 in
    let added = length (faces_read given) in
    let rest = readings_at unit vertices place b (triangles + added) lines in
    let none = faultless_by line.number given (first_faulty rest) e in
    let all : length (faces_read given ++ faces_in rest) ≡ added + length (faces_in rest) =
    length-append (faces_read given) (faces_in rest) in
    let own : k + triangles + added ≤ MOST_FACES = omega (arith, room, all) in
    let theirs : k + (triangles + added) + length (faces_in rest) ≤ MOST_FACES = omega (arith, room, all) in
    let same = given_behind k unit vertices (before place points) triangles line.words none.0 own in
    let moved : k + triangles + added ≡ k + (triangles + added) = omega arith in
    ap (λ o. record { number = line.number; given = o }
    ∷ readings_at unit vertices place b (k + triangles + length (faces_read o)) lines) same
    ∙ ap (λ n. record { number = line.number; given = given } ∷ readings_at unit vertices place b n lines) moved
    ∙ ap (λ rs. record { number = line.number; given = given } ∷ rs)
    (readings_behind k unit vertices place b (triangles + added) lines none.1 theirs)
