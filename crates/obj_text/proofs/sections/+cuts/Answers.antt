use Rattle.std.proofs.Common.{rules}
use Rattle.text_words.specs.Joins.{joined_lines_of}
use Rattle.obj_text.specs.Sections.{AreSections}
use Rattle.obj_text.proofs.SectionLists.{both_if_there}
use Rattle.obj_text.proofs.sections.+cuts.Goals as goal

pub returns : goal.returns
returns g t c =
    let left = joined_lines_of c.in-Some.left.now in
    let right = joined_lines_of c.in-Some.right.now in
    let front = c.in_ok-front.field-0 in
    let back = c.in_ok-back.field-0 in
    let first : AreSections c.args.counted front.items left = search rules in
    let second : AreSections c.args.counted back.items right = search rules in
    both_if_there c.args.counted (λ v. v.items) _ front.items back.items left right (joined_lines_of c.args.text.now) c.both.result
    c.in-Some.ensures.lines first second c.both.ensures
