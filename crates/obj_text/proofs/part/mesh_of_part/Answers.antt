use Rattle.std.proofs.Common.{rules, arith, ◌≡◌, ◌<◌, ℕ, List, [], length, take, get_or, refl, ap}
use Rattle.std.specs.Prelude.{codes, Option, None}
use Rattle.std.specs.Option.{unwrap_or}
use Rattle.std.proofs.lemmas.List.{length-map}
use Rattle.obj_text.specs.Names.{known, names_or}
use Rattle.obj_text.specs.Parts.{names_of}
use Rattle.obj_text.specs.declared.part.Run.{Run}
use Rattle.obj_text.proofs.Grouping.{faces_grouped, length-grouped}
use Rattle.obj_text.proofs.Runs.{run_taken, names_few, now_or}
use Rattle.obj_text.proofs.part.mesh_of_part.Goals as goal

-- what stands past the last run
abbrev blank : Run
blank = record { name = None; faces = 0 }

pub group_faces-requires-clause-few : goal.group_faces-requires-clause-few
group_faces-requires-clause-few c =
    let runs = c.deref-run-items.result.now in
    let at = c.loop-run.run-index in
    let some : at < length runs = search rules in
    let all : runs ≡ c.args.part.runs.items = search rules in
    let or = λ (k : Option (List ℕ)). unwrap_or k (codes "default") in
    omega (
      arith,
      ap (λ k. length (names_of k)) all,
      names_few runs at blank some,
      length-grouped (names_or (codes "default") (names_of (take at runs))) c.loop-run.groups.keys
          c.loop-run.group_of.items c.loop-run.invariant.grouped,
      length-map (names_of (take at runs)) or,
      length-map (names_of c.args.part.runs.items) or,
      c.requires.mesh.one_name,
      c.requires.mesh.few_faces,
    )

pub loop-run-preserved : goal.loop-run-preserved
loop-run-preserved c =
    let runs = c.deref-run-items.result.now in
    let at = c.loop-run.run-index in
    let some : at < length runs = search rules in
    let run = get_or runs at blank in
    let name : unwrap_or (known run.name) (codes "default") ≡ c.unwrap_or-name.result.now =
    now_or run.name _ c.unwrap_or-name.result c.unwrap_or-name.ensures refl in
    let grouped = faces_grouped (names_or (codes "default") (names_of (take at runs))) c.loop-run.groups.keys
    c.loop-run.group_of.items run.faces c.unwrap_or-name.result.now c.loop-run.invariant.grouped in
    let names = run_taken (codes "default") runs at blank some in
    search (rules, grouped, names, name)
