-- What is known of a part's lines when they are read up to some line.
use Rattle.std.proofs.Common.{◌≡◌, ℕ, ◌+◌, ◌-◌, ◌≤◌, List, ◌∷◌, ◌++◌, length, cond, refl, sym, ap, subst, ◌∙◌, append_assoc, length-append, arith, Ok, Err, Result}
use Rattle.std.specs.Prelude.{replicate, Option, None}
use Rattle.std.proofs.lemmas.List.Sums.{sum_by-cons}
use Rattle.fixed_box.specs.declared.shapes.Point.{Point}
use Rattle.text_words.specs.Joins.{JoinedLine}
use Rattle.obj_text.specs.Rows.{Given, given_of, is_vertex, points_of, faces_of}
use Rattle.obj_text.specs.Steps.{IsAdded}
use Rattle.obj_text.specs.Texts.{vertices_of, points_in, faces_in, first_faulty, fault_or, faces_read, points_read}
use Rattle.obj_text.specs.Places.{before, readings_at}
use Rattle.obj_text.specs.Names.{known_after, known_read, known_names, last_known}
use Rattle.obj_text.specs.declared.place.Place.{Place}
use Rattle.obj_text.specs.declared.face.Face.{Face}
use Rattle.obj_text.specs.declared.fault.Why.{Why}
use Rattle.obj_text.specs.declared.limits.TheConstants.{MOST_FACES}
use Rattle.obj_text.proofs.Givens.{given_is}
use Rattle.obj_text.proofs.PlacedLines.{before_less}
use Rattle.obj_text.proofs.Runs.{run_grown}

-- of a part's lines, those before `left` are read, and gave these points, these faces of these names, and the current
-- name
pub record IsReadUpTo (unit vertices : ℕ) (place : Place) (lines left : List JoinedLine) (points : List Point)
    (faces : List Face) (names : List (Option (List ℕ))) (name : Option (List ℕ)) : Type 0 where
  pub fault : first_faulty (readings_at unit vertices place 0 0 lines)
      ≡ first_faulty (readings_at unit vertices place (length points) (length faces) left)
  pub points_are : points_in (readings_at unit vertices place 0 0 lines)
      ≡ points ++ points_in (readings_at unit vertices place (length points) (length faces) left)
  pub faces_are : faces_in (readings_at unit vertices place 0 0 lines)
      ≡ faces ++ faces_in (readings_at unit vertices place (length points) (length faces) left)
  pub names_are : known_names None (readings_at unit vertices place 0 0 lines)
      ≡ names ++ known_names name (readings_at unit vertices place (length points) (length faces) left)
  pub name_is : last_known None (readings_at unit vertices place 0 0 lines)
      ≡ last_known name (readings_at unit vertices place (length points) (length faces) left)
  pub within : before place (length points + vertices_of left) ≤ vertices
  pub few_faces : length faces ≤ MOST_FACES

-- what a line leads to that gives this
given_read : (unit vertices : ℕ) (place : Place) (lines : List JoinedLine) (line : JoinedLine)
    (left : List JoinedLine) (points : List Point) (faces : List Face) (names : List (Option (List ℕ))) (name : Option (List ℕ))
    (given : Given) → IsReadUpTo unit vertices place lines (line ∷ left) points faces names name
    → given_of unit vertices (before place (length points)) (length faces) line.words ≡ Ok given
    → IsReadUpTo unit vertices place lines left (points ++ points_of given) (faces ++ faces_of given)
    (names ++ replicate (length (faces_of given)) name) (known_after name given)
given_read unit vertices place lines line left points faces names name given r e =
    let k = length points in
    let b = before place k in
    let t = length faces in
    let next = known_after name given in
    let one : ℕ = cond (is_vertex line.words) 1 0 in
    let outcome = given_of unit vertices b t line.words in
    let count : vertices_of (line ∷ left) ≡ one + vertices_of left =
    sum_by-cons (λ k. cond (is_vertex k.words) 1 0) line left in
    let within : b ≤ vertices = omega (arith, r.within, before_less place k (vertices_of (line ∷ left))) in
    let is = given_is unit vertices b t line.words given within r.few_faces e in
    let later = readings_at unit vertices place (k + one) (t + length (faces_read outcome)) left in
    let points_now : k + one ≡ length (points ++ points_of given) =
    omega (arith, is.0, length-append points (points_of given)) in
    let faces_now : t + length (faces_read outcome) ≡ length (faces ++ faces_of given) =
    ap (λ o. t + length (faces_read o)) e ∙ sym (length-append faces (faces_of given)) in
    let now = readings_at unit vertices place (length (points ++ points_of given))
    (length (faces ++ faces_of given)) left in
    let same : later ≡ now =
    ap (λ n. readings_at unit vertices place n (t + length (faces_read outcome)) left) points_now
    ∙ ap (λ n. readings_at unit vertices place (length (points ++ points_of given)) n left) faces_now in
    let new_names = replicate (length (faces_of given)) name in
    let sum : k + vertices_of (line ∷ left) ≡ length (points ++ points_of given) + vertices_of left =
    omega (arith, count, points_now) in
    record {
      fault = r.fault ∙ ap (λ o. fault_or line.number o (first_faulty later)) e ∙ ap first_faulty same;
      points_are = r.points_are ∙ ap (λ o. points ++ (points_read o ++ points_in later)) e
          ∙ ap (λ k. points ++ (points_of given ++ points_in k)) same
          ∙ sym (append_assoc points (points_of given) (points_in now));
      faces_are = r.faces_are ∙ ap (λ o. faces ++ (faces_read o ++ faces_in later)) e
          ∙ ap (λ k. faces ++ (faces_of given ++ faces_in k)) same
          ∙ sym (append_assoc faces (faces_of given) (faces_in now));
      names_are = r.names_are
          ∙ ap (λ o. names ++ (replicate (length (faces_read o)) name ++ known_names (known_read name o) later)) e
          ∙ ap (λ k. names ++ (new_names ++ known_names next k)) same
          ∙ sym (append_assoc names new_names (known_names next now));
      name_is = r.name_is ∙ ap (λ o. last_known (known_read name o) later) e ∙ ap (last_known next) same;
      within = subst (λ n. before place n ≤ vertices) sum r.within;
      few_faces = omega (arith, length-append faces (faces_of given), is.1.few_faces);
    }

-- the same, by what the line gives
added_by : (unit vertices : ℕ) (place : Place) (lines : List JoinedLine) (line : JoinedLine)
    (left : List JoinedLine) (points more_points : List Point) (faces more_faces : List Face)
    (names : List (Option (List ℕ))) (name next : Option (List ℕ)) (outcome : Result Given Why)
    → IsReadUpTo unit vertices place lines (line ∷ left) points faces names name
    → given_of unit vertices (before place (length points)) (length faces) line.words ≡ outcome
    → IsAdded outcome points more_points faces more_faces name next
    → (length faces ≤ length more_faces) × IsReadUpTo unit vertices place lines left more_points more_faces
    (names ++ replicate (length more_faces - length faces) name) next
added_by unit vertices place lines line left points more_points faces more_faces names name next (Err why)
    r e a = absurd (a)
added_by unit vertices place lines line left points more_points faces more_faces names name next (Ok given)
    r e a =
    let read = given_read unit vertices place lines line left points faces names name given r e in
    let new = length (faces_of given) in
    let grown : length more_faces ≡ length faces + new =
    ap (λ k. length k) a.faces_are ∙ length-append faces (faces_of given) in
    let as_many : new ≡ length more_faces - length faces = omega (arith, grown) in
    let so_far = λ (ps : List Point) (fs : List Face) (k : ℕ) (n : Option (List ℕ)). IsReadUpTo unit vertices place
    lines left ps fs (names ++ replicate k name) n in (
      omega (arith, grown),
      subst (so_far more_points more_faces (length more_faces - length faces)) (sym a.name_is)
          (subst (λ k. so_far more_points more_faces k (known_after name given)) as_many
          (subst (λ k. so_far more_points k new (known_after name given)) (sym a.faces_are)
          (subst (λ k. so_far k (faces ++ faces_of given) new (known_after name given)) (sym a.points_are) read))),
    )

-- a line leaves no fewer faces than there were
pub no_fewer : (outcome : Result Given Why) (points more_points : List Point) (faces more_faces : List Face)
    (name next : Option (List ℕ)) → IsAdded outcome points more_points faces more_faces name next
    → length faces ≤ length more_faces
no_fewer (Err why) points more_points faces more_faces name next a = absurd (a)
no_fewer (Ok given) points more_points faces more_faces name next a =
    omega (arith, ap (λ k. length k) a.faces_are, length-append faces (faces_of given))

-- one line more is read, and its faces, if any, go on with the run that is not ended
pub line_read : (unit vertices : ℕ) (place : Place) (lines : List JoinedLine) (number : ℕ)
    (words : List (List ℕ)) (left all : List JoinedLine) (points more_points : List Point)
    (faces more_faces : List Face) (names : List (Option (List ℕ))) (in_runs : ℕ) (name next : Option (List ℕ))
    → in_runs ≤ length faces → all ≡ record { number = number; words = words } ∷ left
    → IsReadUpTo unit vertices place lines all points faces (names ++ replicate (length faces - in_runs) name)
    name
    → IsAdded (given_of unit vertices (before place (length points)) (length faces) words)
    points more_points faces more_faces name next
    → (in_runs ≤ length more_faces) × IsReadUpTo unit vertices place lines left more_points more_faces
    (names ++ replicate (length more_faces - in_runs) name) next
line_read unit vertices place lines number words left all points more_points faces more_faces names in_runs
    name next few e r a =
    let so_far = names ++ replicate (length faces - in_runs) name in
    let read = added_by unit vertices place lines (record { number = number; words = words }) left points
    more_points faces more_faces so_far name next
    (given_of unit vertices (before place (length points)) (length faces) words)
    (subst (λ k. IsReadUpTo unit vertices place lines k points faces so_far name) e r) refl a in (
      omega (arith, few, read.0),
      subst (λ k. IsReadUpTo unit vertices place lines left more_points more_faces k next)
          (run_grown names name in_runs (length faces) (length more_faces) few read.0) read.1,
    )
