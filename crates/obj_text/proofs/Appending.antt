-- What lines give that stand one after the other, and which names are current in and behind them.
use Rattle.std.proofs.Common.{◌≡◌, ℕ, ◌+◌, List, [], ◌∷◌, ◌++◌, length, cond, refl, sym, ap, ◌∙◌, append_assoc, length-append, arith, Ok, Err, Result}
use Rattle.std.specs.Prelude.{map, replicate, Option, None, Some}
use Rattle.std.specs.Option.{option_or}
use Rattle.std.specs.Borrow.{Bor}
use Rattle.std.proofs.lemmas.List.{map-append}
use Rattle.std.proofs.lemmas.List.Sums.{sum_by-cons, sum_by-append}
use Rattle.fixed_box.specs.declared.shapes.Point.{Point}
use Rattle.text_words.specs.Joins.{JoinedLine}
use Rattle.obj_text.specs.Rows.{Given, Nothing, Vertex, Triangles, GroupName, given_of, is_vertex}
use Rattle.obj_text.specs.Texts.{vertices_of, Reading, points_in, faces_in, first_faulty, fault_or, points_read, faces_read, FaultyLine}
use Rattle.obj_text.specs.Places.{before, readings_at}
use Rattle.obj_text.specs.Names.{known, known_after, known_read, known_names, last_known}
use Rattle.obj_text.specs.Parts.{names_of, run_behind}
use Rattle.obj_text.specs.declared.place.Place.{Place}
use Rattle.obj_text.specs.declared.part.Run.{Run}
use Rattle.obj_text.specs.declared.fault.Why.{Why}
use Rattle.obj_text.proofs.Grouping.{map_replicate}

-- the `v` lines of two lists of lines
pub vertices_of-append : (xs ys : List JoinedLine) → vertices_of (xs ++ ys) ≡ vertices_of xs + vertices_of ys
vertices_of-append xs ys = sum_by-append (λ line. cond (is_vertex line.words) 1 0) xs ys

-- lines behind others are read behind the vertices and the triangles of these
pub readings_at-append : (unit vertices : ℕ) (place : Place) (points triangles : ℕ) (xs ys : List JoinedLine)
    → readings_at unit vertices place points triangles (xs ++ ys)
    ≡ readings_at unit vertices place points triangles xs
    ++ readings_at unit vertices place (points + vertices_of xs)
    (triangles + length (faces_in (readings_at unit vertices place points triangles xs))) ys
readings_at-append unit vertices place points triangles [] ys =
    let b : points ≡ points + 0 = omega arith in
    let t : triangles ≡ triangles + 0 = omega arith in
    ap (λ k. readings_at unit vertices place k triangles ys) b ∙ ap (λ k. readings_at unit vertices place (points + 0) k ys) t
readings_at-append unit vertices place points triangles (x ∷ xs) ys =
    let given = given_of unit vertices (before place points) triangles x.words in
    let one = cond (is_vertex x.words) 1 0 in
    let added = length (faces_read given) in
    let rest = readings_at unit vertices place (points + one) (triangles + added) xs in
    let count : vertices_of (x ∷ xs) ≡ one + vertices_of xs =
    sum_by-cons (λ line. cond (is_vertex line.words) 1 0) x xs in
    let b : points + one + vertices_of xs ≡ points + vertices_of (x ∷ xs) = omega (arith, count) in
    let t : triangles + added + length (faces_in rest) ≡ triangles + length (faces_read given ++ faces_in rest) =
    omega (arith, length-append (faces_read given) (faces_in rest)) in
    let later = λ (k n : ℕ). record { number = x.number; given = given } ∷ (rest ++ readings_at unit vertices place k n ys) in
    ap (λ all. record { number = x.number; given = given } ∷ all)
    (readings_at-append unit vertices place (points + one) (triangles + added) xs ys)
    ∙ ap (λ k. later k (triangles + added + length (faces_in rest))) b
    ∙ ap (later (points + vertices_of (x ∷ xs))) t

-- their points
pub points_in-append : (rs ss : List Reading) → points_in (rs ++ ss) ≡ points_in rs ++ points_in ss
points_in-append [] ss = refl
points_in-append (r ∷ rs) ss =
    ap (λ k. points_read r.given ++ k) (points_in-append rs ss)
    ∙ sym (append_assoc (points_read r.given) (points_in rs) (points_in ss))

-- their faces
pub faces_in-append : (rs ss : List Reading) → faces_in (rs ++ ss) ≡ faces_in rs ++ faces_in ss
faces_in-append [] ss = refl
faces_in-append (r ∷ rs) ss =
    ap (λ k. faces_read r.given ++ k) (faces_in-append rs ss)
    ∙ sym (append_assoc (faces_read r.given) (faces_in rs) (faces_in ss))

-- the fault of a line that has none is that of the lines behind it
fault_or-append : (number : ℕ) (given : Result Given Why) (rest all later : Option FaultyLine)
    → fault_or number given rest ≡ None → (rest ≡ None → all ≡ later) → fault_or number given all ≡ later
fault_or-append number (Ok given) rest all later e f = f e
fault_or-append number (Err why) rest all later e f = absurd (cc)

-- behind lines without a fault the first fault is that of the others
pub first_faulty-append : (rs ss : List Reading) → first_faulty rs ≡ None
    → first_faulty (rs ++ ss) ≡ first_faulty ss
first_faulty-append [] ss e = refl
first_faulty-append (r ∷ rs) ss e =
    fault_or-append r.number r.given (first_faulty rs) (first_faulty (rs ++ ss)) (first_faulty ss) e
    (first_faulty-append rs ss)

-- the names of their faces: the others begin with the name behind the first
known_names-append : (name : Option (List ℕ)) (rs ss : List Reading)
    → known_names name (rs ++ ss) ≡ known_names name rs ++ known_names (last_known name rs) ss
known_names-append name [] ss = refl
known_names-append name (r ∷ rs) ss =
    let own = replicate (length (faces_read r.given)) name in
    ap (λ k. own ++ k) (known_names-append (known_read name r.given) rs ss)
    ∙ sym (append_assoc own (known_names (known_read name r.given) rs)
    (known_names (last_known (known_read name r.given) rs) ss))

-- the name that they leave
last_known-append : (name : Option (List ℕ)) (rs ss : List Reading)
    → last_known name (rs ++ ss) ≡ last_known (last_known name rs) ss
last_known-append name [] ss = refl
last_known-append name (r ∷ rs) ss = last_known-append (known_read name r.given) rs ss

-- ---- a name that is known before lines stands in for one that is not

-- behind what a line gives
after_either : (name last : Option (List ℕ)) (given : Given)
    → known_after (option_or name last) given ≡ option_or (known_after name given) last
after_either name last Nothing = refl
after_either name last (Vertex point) = refl
after_either name last (Triangles faces) = refl
after_either name last (GroupName next) = refl

-- behind a line
read_either : (name last : Option (List ℕ)) (given : Result Given Why)
    → known_read (option_or name last) given ≡ option_or (known_read name given) last
read_either name last (Ok given) = after_either name last given
read_either name last (Err why) = refl

-- behind lines
last_either : (name last : Option (List ℕ)) (rs : List Reading)
    → last_known (option_or name last) rs ≡ option_or (last_known name rs) last
last_either name last [] = refl
last_either name last (r ∷ rs) =
    ap (λ k. last_known k rs) (read_either name last r.given) ∙ last_either (known_read name r.given) last rs

-- for their faces
names_either : (name last : Option (List ℕ)) (rs : List Reading)
    → known_names (option_or name last) rs ≡ map (λ k. option_or k last) (known_names name rs)
names_either name last [] = refl
names_either name last (r ∷ rs) =
    let n = length (faces_read r.given) in
    let rest = known_names (known_read name r.given) rs in
    ap (λ k. replicate n (option_or name last) ++ known_names k rs) (read_either name last r.given)
    ∙ ap (λ k. replicate n (option_or name last) ++ k) (names_either (known_read name r.given) last rs)
    ∙ ap (λ k. k ++ map (λ k. option_or k last) rest) (sym (map_replicate (λ k. option_or k last) n name))
    ∙ sym (map-append (λ k. option_or k last) (replicate n name) rest)

-- the names of lines and of those behind them, which are read with none known
pub names_of_both : (rs ss : List Reading)
    → known_names None (rs ++ ss)
    ≡ known_names None rs ++ map (λ k. option_or k (last_known None rs)) (known_names None ss)
names_of_both rs ss =
    known_names-append None rs ss ∙ ap (λ k. known_names None rs ++ k) (names_either None (last_known None rs) ss)

-- and the name that they leave
pub last_of_both : (rs ss : List Reading)
    → last_known None (rs ++ ss) ≡ option_or (last_known None ss) (last_known None rs)
last_of_both rs ss = last_known-append None rs ss ∙ last_either None (last_known None rs) ss

-- the names of the faces of two lists of runs
pub names_of-append : (rs ss : List Run) → names_of (rs ++ ss) ≡ names_of rs ++ names_of ss
names_of-append [] ss = refl
names_of-append (r ∷ rs) ss =
    let own = replicate r.faces (known r.name) in
    ap (λ k. own ++ k) (names_of-append rs ss) ∙ sym (append_assoc own (names_of rs) (names_of ss))

-- the bytes of a name, or else those of another
pub known-or : (a b : Option (Bor (List ℕ))) → known (option_or a b) ≡ option_or (known a) (known b)
known-or None b = refl
known-or (Some name) b = refl

-- the names of runs behind a name
pub names_behind : (last : Option (Bor (List ℕ))) (runs : List Run)
    → names_of (map (run_behind last) runs) ≡ map (λ k. option_or k (known last)) (names_of runs)
names_behind last [] = refl
names_behind last (run ∷ runs) =
    let here = known run.name in
    let behind = λ (k : Option (List ℕ)). option_or k (known last) in
    ap (λ k. replicate run.faces k ++ names_of (map (run_behind last) runs)) (known-or run.name last)
    ∙ ap (λ k. replicate run.faces (behind here) ++ k) (names_behind last runs)
    ∙ ap (λ k. k ++ map behind (names_of runs)) (sym (map_replicate behind run.faces here))
    ∙ sym (map-append behind (replicate run.faces here) (names_of runs))
