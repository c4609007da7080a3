-- The names of faces in runs.
use Rattle.std.proofs.Common.{◌≡◌, ℕ, ◌+◌, ◌-◌, ◌<◌, ◌≤◌, List, [], ◌∷◌, ◌++◌, length, take, get_or, zero, suc, sym, ap, ◌∙◌, append_assoc, append-nil, length-append, arith}
use Rattle.std.specs.Prelude.{map, replicate, Option, None, Some}
use Rattle.std.specs.Borrow.{Bor}
use Rattle.std.specs.Option.{unwrap_or}
use Rattle.std.proofs.lemmas.List.{map-append, take_more, length-replicate, replicate-append-replicate}
use Rattle.obj_text.specs.Names.{known, names_or}
use Rattle.obj_text.specs.Parts.{names_of}
use Rattle.obj_text.specs.declared.part.Run.{Run}
use Rattle.obj_text.proofs.Grouping.{map_replicate}

-- one run more
pub run_added : (runs : List Run) (run : Run)
    → names_of (runs ++ run ∷ []) ≡ names_of runs ++ replicate run.faces (known run.name)
run_added [] run = append-nil (replicate run.faces (known run.name))
run_added (first ∷ runs) run =
    let had = replicate first.faces (known first.name) in
    ap (λ k. had ++ k) (run_added runs run)
    ∙ sym (append_assoc had (names_of runs) (replicate run.faces (known run.name)))

-- more faces of a run that is not ended
pub run_grown : (names : List (Option (List ℕ))) (name : Option (List ℕ)) (in_runs faces more : ℕ) → in_runs ≤ faces → faces ≤ more
    → (names ++ replicate (faces - in_runs) name) ++ replicate (more - faces) name
    ≡ names ++ replicate (more - in_runs) name
run_grown names name in_runs faces more few grows =
    let sum : (faces - in_runs) + (more - faces) ≡ more - in_runs = omega (arith, few, grows) in
    append_assoc names (replicate (faces - in_runs) name) (replicate (more - faces) name)
    ∙ ap (λ k. names ++ k) (replicate-append-replicate (faces - in_runs) (more - faces) name
    ∙ ap (λ k. replicate k name) sum)

-- the run is ended, and one of any name begins
pub run_ended : (names more_names : List (Option (List ℕ))) (name next : Option (List ℕ)) (in_runs faces ended : ℕ) → ended ≡ faces
    → more_names ≡ names ++ replicate (faces - in_runs) name
    → names ++ replicate (faces - in_runs) name ≡ more_names ++ replicate (faces - ended) next
run_ended names more_names name next in_runs faces ended all is =
    let none : 0 ≡ faces - ended = omega (arith, all) in
    sym is ∙ sym (append-nil more_names) ∙ ap (λ k. more_names ++ replicate k next) none

-- names that are known, and one of so many more
pub names_or-more : (name : List ℕ) (names : List (Option (List ℕ))) (k : ℕ) (last : Option (List ℕ))
    → names_or name (names ++ replicate k last) ≡ names_or name names ++ replicate k (unwrap_or last name)
names_or-more name names k last =
    map-append (λ n. unwrap_or n name) names (replicate k last)
    ∙ ap (λ l. names_or name names ++ l) (map_replicate (λ n. unwrap_or n name) k last)

-- the names of runs up to one, and of that one
pub run_taken : (name : List ℕ) (runs : List Run) (i : ℕ) (blank : Run) → i < length runs
    → names_or name (names_of (take (i + 1) runs))
    ≡ names_or name (names_of (take i runs))
    ++ replicate (get_or runs i blank).faces (unwrap_or (known (get_or runs i blank).name) name)
run_taken name runs i blank some =
    let run = get_or runs i blank in
    ap (λ l. names_or name (names_of l)) (take_more runs i blank some)
    ∙ ap (names_or name) (run_added (take i runs) run)
    ∙ names_or-more name (names_of (take i runs)) run.faces (known run.name)

-- these are no more than those of all runs
pub names_few : (runs : List Run) (i : ℕ) (blank : Run) → i < length runs
    → length (names_of (take i runs)) + (get_or runs i blank).faces ≤ length (names_of runs)
names_few [] i blank some = absurd (omega arith)
names_few (run ∷ runs) zero blank some =
    let names = replicate run.faces (known run.name) in
    omega (arith, length-append names (names_of runs), length-replicate run.faces (known run.name))
names_few (run ∷ runs) (suc i) blank some =
    let names = replicate run.faces (known run.name) in
    let fewer : i < length runs = omega arith in
    omega (
      arith,
      length-append names (names_of runs),
      length-append names (names_of (take i runs)),
      names_few runs i blank fewer,
    )

-- the bytes of a name that is known, or else those of one that is there
pub now_or : (name : Option (Bor (List ℕ))) (other current : Bor (List ℕ)) {bytes : List ℕ}
    → current ≡ unwrap_or name other → other.now ≡ bytes → unwrap_or (known name) bytes ≡ current.now
now_or None other current e f = sym f ∙ ap (λ n. n.now) (sym e)
now_or (Some name) other current e f = ap (λ n. n.now) (sym e)
