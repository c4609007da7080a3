-- What lines give does not depend on their numbers, if none has a fault.
use Rattle.std.proofs.Common.{◌≡◌, ℕ, ◌+◌, List, [], ◌∷◌, ◌++◌, length, cond, refl, sym, ap, ◌∙◌, Ok, Err, Result}
use Rattle.std.specs.Prelude.{map, replicate, Option, None}
use Rattle.std.proofs.lemmas.List.Sums.{sum_by-cons}
use Rattle.text_words.specs.Joins.{JoinedLine}
use Rattle.obj_text.specs.Sections.{renumbered}
use Rattle.obj_text.specs.Rows.{Given, given_of, is_vertex}
use Rattle.obj_text.specs.Texts.{vertices_of, points_in, faces_in, first_faulty, fault_or, points_read, faces_read, FaultyLine}
use Rattle.obj_text.specs.Places.{before, readings_at}
use Rattle.obj_text.specs.Names.{known_names, known_read, last_known}
use Rattle.obj_text.specs.declared.place.Place.{Place}
use Rattle.obj_text.specs.declared.fault.Why.{Why}

-- how many of them are `v` lines
pub vertices_of-renumbered : (f : JoinedLine → ℕ) (lines : List JoinedLine) → vertices_of (map (renumbered f) lines) ≡ vertices_of lines
vertices_of-renumbered f [] = refl
vertices_of-renumbered f (line ∷ lines) =
    let one = cond (is_vertex line.words) 1 0 in
    sum_by-cons (λ k. cond (is_vertex k.words) 1 0) (renumbered f line) (map (renumbered f) lines)
    ∙ ap (λ k. one + k) (vertices_of-renumbered f lines)
    ∙ sym (sum_by-cons (λ k. cond (is_vertex k.words) 1 0) line lines)

-- their points
pub points_in-renumbered : (f : JoinedLine → ℕ) (unit vertices : ℕ) (place : Place) (points triangles : ℕ) (lines : List JoinedLine)
    → points_in (readings_at unit vertices place points triangles (map (renumbered f) lines))
    ≡ points_in (readings_at unit vertices place points triangles lines)
points_in-renumbered f unit vertices place points triangles [] = refl
points_in-renumbered f unit vertices place points triangles (line ∷ lines) =
    let given = given_of unit vertices (before place points) triangles line.words in
    ap (λ k. points_read given ++ k) (points_in-renumbered f unit vertices place (points + cond (is_vertex line.words) 1 0)
    (triangles + length (faces_read given)) lines)

-- their faces
pub faces_in-renumbered : (f : JoinedLine → ℕ) (unit vertices : ℕ) (place : Place) (points triangles : ℕ) (lines : List JoinedLine)
    → faces_in (readings_at unit vertices place points triangles (map (renumbered f) lines))
    ≡ faces_in (readings_at unit vertices place points triangles lines)
faces_in-renumbered f unit vertices place points triangles [] = refl
faces_in-renumbered f unit vertices place points triangles (line ∷ lines) =
    let given = given_of unit vertices (before place points) triangles line.words in
    ap (λ k. faces_read given ++ k) (faces_in-renumbered f unit vertices place (points + cond (is_vertex line.words) 1 0)
    (triangles + length (faces_read given)) lines)

-- the names of these
pub known_names-renumbered : (f : JoinedLine → ℕ) (unit vertices : ℕ) (place : Place) (points triangles : ℕ) (name : Option (List ℕ)) (lines : List JoinedLine)
    → known_names name (readings_at unit vertices place points triangles (map (renumbered f) lines))
    ≡ known_names name (readings_at unit vertices place points triangles lines)
known_names-renumbered f unit vertices place points triangles name [] = refl
known_names-renumbered f unit vertices place points triangles name (line ∷ lines) =
    let given = given_of unit vertices (before place points) triangles line.words in
    ap (λ k. replicate (length (faces_read given)) name ++ k) (known_names-renumbered f unit vertices place
    (points + cond (is_vertex line.words) 1 0) (triangles + length (faces_read given)) (known_read name given) lines)

-- the name that they leave
pub last_known-renumbered : (f : JoinedLine → ℕ) (unit vertices : ℕ) (place : Place) (points triangles : ℕ)
    (name : Option (List ℕ)) (lines : List JoinedLine)
    → last_known name (readings_at unit vertices place points triangles (map (renumbered f) lines))
    ≡ last_known name (readings_at unit vertices place points triangles lines)
last_known-renumbered f unit vertices place points triangles name [] = refl
last_known-renumbered f unit vertices place points triangles name (line ∷ lines) =
    let given = given_of unit vertices (before place points) triangles line.words in
    last_known-renumbered f unit vertices place (points + cond (is_vertex line.words) 1 0)
    (triangles + length (faces_read given)) (known_read name given) lines

-- a line without a fault has none under another number
fault_or-renumbered : (number other : ℕ) (given : Result Given Why) (later others : Option FaultyLine)
    → fault_or number given later ≡ None → (later ≡ None → others ≡ None) → fault_or other given others ≡ None
fault_or-renumbered number other (Ok given) later others e f = f e
fault_or-renumbered number other (Err why) later others e f = absurd (cc)

-- that none of them has a fault
pub first_faulty-renumbered : (f : JoinedLine → ℕ) (unit vertices : ℕ) (place : Place) (points triangles : ℕ) (lines : List JoinedLine)
    → first_faulty (readings_at unit vertices place points triangles lines) ≡ None
    → first_faulty (readings_at unit vertices place points triangles (map (renumbered f) lines)) ≡ None
first_faulty-renumbered f unit vertices place points triangles [] e = refl
first_faulty-renumbered f unit vertices place points triangles (line ∷ lines) e =
    let given = given_of unit vertices (before place points) triangles line.words in
    let b = points + cond (is_vertex line.words) 1 0 in
    let t = triangles + length (faces_read given) in
    fault_or-renumbered line.number (f line) given (first_faulty (readings_at unit vertices place b t lines))
    (first_faulty (readings_at unit vertices place b t (map (renumbered f) lines))) e
    (first_faulty-renumbered f unit vertices place b t lines)

-- and that none of them has one under numbers of their own
pub first_faulty-own : (f : JoinedLine → ℕ) (unit vertices : ℕ) (place : Place) (points triangles : ℕ) (lines : List JoinedLine)
    → first_faulty (readings_at unit vertices place points triangles (map (renumbered f) lines)) ≡ None
    → first_faulty (readings_at unit vertices place points triangles lines) ≡ None
first_faulty-own f unit vertices place points triangles [] e = refl
first_faulty-own f unit vertices place points triangles (line ∷ lines) e =
    let given = given_of unit vertices (before place points) triangles line.words in
    let b = points + cond (is_vertex line.words) 1 0 in
    let t = triangles + length (faces_read given) in
    fault_or-renumbered (f line) line.number given
    (first_faulty (readings_at unit vertices place b t (map (renumbered f) lines)))
    (first_faulty (readings_at unit vertices place b t lines)) e (first_faulty-own f unit vertices place b t lines)
