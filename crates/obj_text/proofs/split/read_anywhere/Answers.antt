use Rattle.std.proofs.Common.{◌≡◌, ◌≤◌, ◌∙◌, map, ap, length, arith, rules}
use Rattle.std.specs.List.{All}
use Rattle.text_words.specs.Joins.{joined_lines_of}
use Rattle.obj_text.specs.Meshes.{IsFaceOf}
use Rattle.obj_text.specs.Parts.{IsPart}
use Rattle.obj_text.specs.Sections.{unnumbered, lines_in}
use Rattle.obj_text.specs.declared.limits.TheConstants.{MOST_BYTES, MOST_POINTS}
use Rattle.obj_text.specs.declared.place.Place.TheVariants.{Anywhere}
use Rattle.obj_text.proofs.Anywhere.{part_anywhere}
use Rattle.obj_text.proofs.AppendedParts.{same_part}
use Rattle.obj_text.proofs.split.read_anywhere.Goals as goal

pub returns : goal.returns
returns g c =
    let lines = joined_lines_of c.args.bytes.now in
    let part = c.in_ok-part.part in
    let same : map unnumbered (lines_in c.deref.result.now) ≡ map unnumbered lines =
    ap (λ k. map unnumbered (lines_in k)) c.deref.ensures.value ∙ c.in-Some.ensures.same in
    let read : IsPart c.args.unit MOST_BYTES Anywhere (lines_in c.deref.result.now) part.points.items part.faces.items
    part.runs.items part.name = search rules in
    let few : length part.points.items ≤ MOST_POINTS = search rules in
    let named : All (IsFaceOf (length part.points.items)) part.faces.items = search rules in
    part_anywhere c.args.unit MOST_BYTES lines part.points.items part.faces.items part.runs.items part.name
    (same_part c.args.unit MOST_BYTES Anywhere (lines_in c.deref.result.now) lines part.points.items part.faces.items
    part.runs.items part.name same read) few named
