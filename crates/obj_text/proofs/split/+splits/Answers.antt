use Rattle.std.specs.List.{All}
use Rattle.std.proofs.Common.{◌≡◌, ◌+◌, ◌<◌, ◌≤◌, length, arith, rules, subst, sym, ap, ◌∙◌}
use Rattle.obj_text.specs.Texts.{vertices_of}
use Rattle.obj_text.specs.Places.{before, place_behind}
use Rattle.obj_text.specs.Parts.{IsPart}
use Rattle.obj_text.specs.Sections.{lines_in, is_counted, IsSection}
use Rattle.obj_text.proofs.AppendedParts.{part_of_both}
use Rattle.obj_text.proofs.PlacedLines.{before_less, before_behind}
use Rattle.obj_text.proofs.SectionLists.{halves, counted_behind}
use Rattle.obj_text.proofs.split.+splits.Goals as goal

pub behind-next-requires-clause-few : goal.behind-next-requires-clause-few
behind-next-requires-clause-few g t c =
    let place = c.args.place in
    let first = vertices_of (lines_in c.split_at.result.0.now) in
    let second = vertices_of (lines_in c.split_at.result.1.now) in
    let h = halves (is_counted place) _ c.args.sections.now c.split_at.ensures.front c.split_at.ensures.back
    c.requires.each in
    let whole : before place (first + second) ≤ c.args.vertices =
    subst (λ n. before place n ≤ c.args.vertices) h.vertices c.requires.within in
    omega (arith, whole, before_less place first second, c.requires.vertices)

pub behind-next-requires-clause-each : goal.behind-next-requires-clause-each
behind-next-requires-clause-each g t c =
    (halves (is_counted c.args.place) _ c.args.sections.now c.split_at.ensures.front c.split_at.ensures.back
    c.requires.each).first

pub join-front-requires-after_bounds : goal.join-front-requires-after_bounds
join-front-requires-after_bounds g t c κs within =
    let place = c.args.place in
    let next = c.behind-next.result in
    let first = vertices_of (lines_in c.split_at.result.0.now) in
    let second = vertices_of (lines_in c.split_at.result.1.now) in
    let h = halves (is_counted place) _ c.args.sections.now c.split_at.ensures.front c.split_at.ensures.back
    c.requires.each in
    let whole : before place (first + second) ≤ c.args.vertices =
    subst (λ n. before place n ≤ c.args.vertices) h.vertices c.requires.within in
    let there : place_behind place first ≡ next = search rules in
    let counted : is_counted place ≡ is_counted next =
    sym (counted_behind place first) ∙ ap is_counted there in
    let each : All (IsSection (is_counted next)) c.split_at.result.1.now =
    subst (λ k. All (IsSection k) c.split_at.result.1.now) counted h.second in
    let fits : before next second ≤ c.args.vertices =
    subst (λ p. before p second ≤ c.args.vertices) there
    (subst (λ n. n ≤ c.args.vertices) (before_behind place first second) whole) in
    let sooner : length c.split_at.result.0.now < length c.args.sections.now =
    omega (arith, c.split_at.ensures.front_len, c.if-sections-lt2.false) in
    let later : length c.split_at.result.1.now < length c.args.sections.now =
    omega (arith, c.split_at.ensures.back_len, c.if-sections-lt2.false) in (
      (
        omega (arith, sooner),
        (
          search rules,
          (
            search rules,
            (h.first, (search rules, (search rules, (search rules, (omega (arith, whole, before_less place first second), search rules))))),
          ),
        ),
      ),
      (
        omega (arith, later),
        (
          search rules,
          (search rules, (each, (search rules, (search rules, (search rules, (fits, search rules)))))),
        ),
      ),
    )

pub returns : goal.returns
returns g t c =
    let unit = c.args.unit in
    let vertices = c.args.vertices in
    let place = c.args.place in
    let left = c.split_at.result.0.now in
    let right = c.split_at.result.1.now in
    let front = c.in_ok-front.field-0 in
    let back = c.in_ok-back.field-0 in
    let h = halves (is_counted place) _ c.args.sections.now c.split_at.ensures.front c.split_at.ensures.back
    c.requires.each in
    let there : c.behind-next.result ≡ place_behind place (vertices_of (lines_in left)) = search rules in
    let first : IsPart unit vertices place (lines_in left) front.points.items front.faces.items front.runs.items
    front.name = search rules in
    let second : IsPart unit vertices c.behind-next.result (lines_in right) back.points.items back.faces.items
    back.runs.items back.name = search rules in
    let behind = subst (λ p. IsPart unit vertices p (lines_in right) back.points.items back.faces.items
    back.runs.items back.name) there second in
    part_of_both unit vertices place (lines_in left) (lines_in right) (lines_in c.args.sections.now) front back
    c.in-Ok.part h.lines first behind c.in-Ok.ensures.points c.in-Ok.ensures.faces c.in-Ok.ensures.runs
    c.in-Ok.ensures.name (omega arith)
