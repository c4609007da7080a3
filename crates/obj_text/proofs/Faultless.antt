-- What lines without a fault give: points of the world, faces over the text's points, and no more of either than a mesh
-- has room for.
use Rattle.std.proofs.Common.{◌≡◌, ℕ, ◌+◌, ◌≤◌, List, [], ◌∷◌, ◌++◌, length, cond, refl, subst, length-append, arith, Ok, Err, Result, None}
use Rattle.std.specs.Prelude.{replicate, Option}
use Rattle.std.specs.List.{All}
use Rattle.std.proofs.lemmas.List.{length-replicate}
use Rattle.std.proofs.lemmas.List.Elements.{All-append, All-nil}
use Rattle.std.proofs.lemmas.List.Sums.{sum_by-cons}
use Rattle.fixed_box.specs.World.{InWorld}
use Rattle.fixed_box.specs.declared.shapes.Point.{Point}
use Rattle.text_words.specs.Joins.{JoinedLine}
use Rattle.obj_text.specs.Meshes.{IsFaceOf}
use Rattle.obj_text.specs.Rows.{Given, given_of, is_vertex, points_of, faces_of}
use Rattle.obj_text.specs.Texts.{Reading, vertices_of, points_in, faces_in, first_faulty, fault_or, faces_read, points_read}
use Rattle.obj_text.specs.Places.{before, readings_at}
use Rattle.obj_text.specs.Names.{known_read, known_names}
use Rattle.obj_text.specs.declared.place.Place.{Place}
use Rattle.obj_text.specs.declared.face.Face.{Face}
use Rattle.obj_text.specs.declared.fault.Why.{Why}
use Rattle.obj_text.specs.declared.limits.TheConstants.{MOST_POINTS, MOST_FACES}
use Rattle.obj_text.proofs.Givens.{given_is}
use Rattle.obj_text.proofs.PlacedLines.{before_less, before_fits}

-- so many points and these faces are lawful in a text with so many vertices, in a part that stands there, behind so many
-- of its vertices and triangles
pub record IsLawful (vertices : ℕ) (place : Place) (first triangles count : ℕ) (points : List Point) (faces : List Face)
    : Type 0 where
  pub in_world : All InWorld points
  pub named : All (IsFaceOf vertices) faces
  pub as_many : length points ≡ count
  pub few_points : before place (first + length points) ≤ MOST_POINTS
  pub few_faces : triangles + length faces ≤ MOST_FACES

-- a line without a fault, and lines behind it
line_lawful : (unit vertices : ℕ) (place : Place) (first triangles : ℕ) (line : JoinedLine) (lines : List JoinedLine)
    (later : List Reading) (given : Result Given Why)
    → given_of unit vertices (before place first) triangles line.words ≡ given
    → before place (first + vertices_of (line ∷ lines)) ≤ vertices → before place first ≤ MOST_POINTS
    → triangles ≤ MOST_FACES → fault_or line.number given (first_faulty later) ≡ None
    → (before place (first + cond (is_vertex line.words) 1 0 + vertices_of lines) ≤ vertices
    → before place (first + cond (is_vertex line.words) 1 0) ≤ MOST_POINTS
    → triangles + length (faces_read given) ≤ MOST_FACES → first_faulty later ≡ None
    → IsLawful vertices place (first + cond (is_vertex line.words) 1 0) (triangles + length (faces_read given))
    (vertices_of lines) (points_in later) (faces_in later))
    → IsLawful vertices place first triangles (vertices_of (line ∷ lines)) (points_read given ++ points_in later)
    (faces_read given ++ faces_in later)
line_lawful unit vertices place first triangles line lines later (Err why) e within room few none behind = absurd (cc)
line_lawful unit vertices place first triangles line lines later (Ok given) e within room few none behind =
    let one : ℕ = cond (is_vertex line.words) 1 0 in
    let count : vertices_of (line ∷ lines) ≡ one + vertices_of lines =
    sum_by-cons (λ k. cond (is_vertex k.words) 1 0) line lines in
    let there : before place first ≤ vertices =
    omega (arith, within, before_less place first (vertices_of (line ∷ lines))) in
    let is = given_is unit vertices (before place first) triangles line.words given there few e in
    let sum : first + vertices_of (line ∷ lines) ≡ first + one + vertices_of lines = omega (arith, count) in
    let fits = before_fits place first one MOST_POINTS room (subst (λ n. before place first + n ≤ MOST_POINTS) is.0
    (is.1.few_points room)) in
    let rest = behind (subst (λ n. before place n ≤ vertices) sum within) fits is.1.few_faces none in
    let all : first + one + length (points_in later) ≡ first + length (points_of given ++ points_in later) =
    omega (arith, length-append (points_of given) (points_in later), is.0) in
    record {
      in_world = All-append InWorld (points_of given) (points_in later) is.1.points rest.in_world;
      named = All-append (IsFaceOf vertices) (faces_of given) (faces_in later) is.1.faces rest.named;
      as_many = omega (arith, length-append (points_of given) (points_in later), is.0, rest.as_many, count);
      few_points = subst (λ n. before place n ≤ MOST_POINTS) all rest.few_points;
      few_faces = omega (arith, length-append (faces_of given) (faces_in later), rest.few_faces);
    }

-- lines without a fault
pub lines_lawful : (unit vertices : ℕ) (place : Place) (first triangles : ℕ) (lines : List JoinedLine)
    → before place (first + vertices_of lines) ≤ vertices → before place first ≤ MOST_POINTS → triangles ≤ MOST_FACES
    → first_faulty (readings_at unit vertices place first triangles lines) ≡ None
    → IsLawful vertices place first triangles (vertices_of lines)
    (points_in (readings_at unit vertices place first triangles lines))
    (faces_in (readings_at unit vertices place first triangles lines))
lines_lawful unit vertices place first triangles [] within room few none =
    let all : first ≡ first + 0 = omega arith in
    record {
      in_world = All-nil InWorld;
      named = All-nil (IsFaceOf vertices);
      as_many = refl;
      few_points = subst (λ n. before place n ≤ MOST_POINTS) all room;
      few_faces = omega (arith, few);
    }
lines_lawful unit vertices place first triangles (line ∷ lines) within room few none =
    let given = given_of unit vertices (before place first) triangles line.words in
    let k = first + cond (is_vertex line.words) 1 0 in
    let t = triangles + length (faces_read given) in
    line_lawful unit vertices place first triangles line lines (readings_at unit vertices place k t lines) given refl
    within room few none (λ w r f n. lines_lawful unit vertices place k t lines w r f n)

-- each face has a name, known or not
pub length-known_names : (name : Option (List ℕ)) (lines : List Reading)
    → length (known_names name lines) ≡ length (faces_in lines)
length-known_names name [] = refl
length-known_names name (line ∷ lines) =
    let faces = faces_read line.given in
    let next = known_read name line.given in
    omega (
      arith,
      length-append (replicate (length faces) name) (known_names next lines),
      length-replicate (length faces) name,
      length-append faces (faces_in lines),
      length-known_names next lines,
    )
