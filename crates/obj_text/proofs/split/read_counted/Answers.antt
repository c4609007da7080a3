use Rattle.std.proofs.Common.{◌≡◌, ◌∙◌, map, ap, arith, rules}
use Rattle.text_words.specs.Joins.{joined_lines_of}
use Rattle.obj_text.specs.Texts.{vertices_of}
use Rattle.obj_text.specs.Sections.{unnumbered, lines_in}
use Rattle.obj_text.proofs.Counts.{vertices_few}
use Rattle.obj_text.proofs.AppendedParts.{same_if_there}
use Rattle.obj_text.proofs.SectionLists.{vertices_of_sections}
use Rattle.obj_text.proofs.split.read_counted.Goals as goal

pub vertices_of_all-vertices-requires-clause-few : goal.vertices_of_all-vertices-requires-clause-few
vertices_of_all-vertices-requires-clause-few g c =
    let text = c.args.bytes.now in
    omega (
      arith,
      vertices_of_sections _ c.in-Some.sections.items c.deref.result.now (joined_lines_of text)
          c.deref.ensures.value c.in-Some.ensures,
      vertices_few text,
      c.requires.few,
    )

pub read_sections-requires-clause-vertices : goal.read_sections-requires-clause-vertices
read_sections-requires-clause-vertices g c κs within =
    let text = c.args.bytes.now in
    omega (
      arith,
      c.vertices_of_all-vertices.ensures,
      vertices_of_sections _ c.in-Some.sections.items c.deref.result.now (joined_lines_of text)
          c.deref.ensures.value c.in-Some.ensures,
      vertices_few text,
      c.requires.few,
    )

pub returns : goal.returns
returns g c =
    let text = c.args.bytes.now in
    let sections = c.in-Some.sections.items in
    let lines = joined_lines_of text in
    let count : c.vertices_of_all-vertices.result ≡ vertices_of lines =
    c.vertices_of_all-vertices.ensures
    ∙ vertices_of_sections _ sections c.deref.result.now lines c.deref.ensures.value c.in-Some.ensures in
    let same : map unnumbered (lines_in c.deref-2.result.now) ≡ map unnumbered lines =
    ap (λ k. map unnumbered (lines_in k)) c.deref-2.ensures.value ∙ c.in-Some.ensures.same in
    same_if_there c.args.unit c.vertices_of_all-vertices.result (vertices_of lines)
    (lines_in c.deref-2.result.now) lines c.read_sections.result count same c.read_sections.ensures
