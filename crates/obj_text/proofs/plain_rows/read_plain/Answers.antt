use Rattle.std.proofs.Common.{rules, arith, ◌≡◌, ◌<◌, ◌+◌, ◌∷◌, ◌++◌, [], false, length, codes, subst, sym, Ok}
use Rattle.text_words.specs.Lines.{lines_of}
use Rattle.text_words.specs.Joins.{joined_lines}
use Rattle.obj_text.specs.Rows.{position}
use Rattle.obj_text.specs.Steps.{all_three}
use Rattle.obj_text.specs.Names.{known}
use Rattle.obj_text.specs.PlainRows.{BeginsWithPoint, BeginsWithNumbers, ReadsOne}
use Rattle.obj_text.specs.declared.limits.TheConstants.{MOST_POINTS, MOST_FACES}
use Rattle.obj_text.proofs.PlainRows.{row_words, lines_fit, point_read, numbers_read}
use Rattle.obj_text.proofs.plain_rows.read_plain.Goals as goal

pub overflow_add-number : goal.overflow_add-number
overflow_add-number c =
    let text = c.in-Some.text.now in
    let rest = c.in-Some-point_row.rest.now in
    let p : BeginsWithPoint c.args.unit text c.in-Some-point_row.point rest = search rules in
    omega (arith, lines_fit c.in-Some.number text (row_words (codes "v") p.first p.second p.third) rest p.row c.in-Some.ensures.few)

pub behind_lines-requires : goal.behind_lines-requires
behind_lines-requires c =
    let text = c.in-Some.text.now in
    let rest = c.in-Some-point_row.rest.now in
    let p : BeginsWithPoint c.args.unit text c.in-Some-point_row.point rest = search rules in
    lines_fit c.in-Some.number text (row_words (codes "v") p.first p.second p.third) rest p.row c.in-Some.ensures.few

pub returns-in-Some-point_row-clause-line : goal.returns-in-Some-point_row-clause-line
returns-in-Some-point_row-clause-line c =
    let text = c.in-Some.text.now in
    let point = c.in-Some-point_row.point in
    let rest = c.in-Some-point_row.rest.now in
    let was = c.args.gathered.now in
    let p : BeginsWithPoint c.args.unit text point rest = search rules in
    let room : c.args.before < MOST_POINTS = search rules in
    let lines : c.args.lines.now.later ≡ joined_lines (c.in-Some.number + 1) (lines_of text) = search rules in
    let left : c.behind_lines.result.later ≡ joined_lines (c.in-Some.number + 1 + 1) (lines_of rest) = search rules in
    let items : c.push.new.self.items ≡ was.points.items ++ point ∷ [] = search rules in
    subst (λ k. ReadsOne c.args.unit c.args.vertices.now c.args.before c.args.lines.now.later
    c.behind_lines.result.later was.points.items k was.faces.items was.faces.items (known was.name)) (sym items)
    (point_read c.args.unit c.args.vertices.now c.args.before c.in-Some.number text point rest c.args.lines.now.later
    c.behind_lines.result.later was.points.items was.faces.items (known was.name) p room lines left)

pub overflow_add-number-2 : goal.overflow_add-number-2
overflow_add-number-2 c =
    let text = c.in-Some.text.now in
    let row = c.in-Some-numbers_row in
    let p : BeginsWithNumbers text row.a row.b row.c row.rest.now = search rules in
    omega (arith, lines_fit c.in-Some.number text (row_words (codes "f") p.first p.second p.third) row.rest.now p.row c.in-Some.ensures.few)

pub behind_lines-requires-2 : goal.behind_lines-requires-2
behind_lines-requires-2 c =
    let text = c.in-Some.text.now in
    let row = c.in-Some-numbers_row in
    let p : BeginsWithNumbers text row.a row.b row.c row.rest.now = search rules in
    lines_fit c.in-Some.number text (row_words (codes "f") p.first p.second p.third) row.rest.now p.row c.in-Some.ensures.few

pub returns-clause-line : goal.returns-clause-line
returns-clause-line c =
    let text = c.in-Some.text.now in
    let row = c.in-Some-numbers_row in
    let corners = c.in-Ok in
    let was = c.args.gathered.now in
    let vertices = c.args.vertices.now in
    let p : BeginsWithNumbers text row.a row.b row.c row.rest.now = search rules in
    let room : length was.faces.items < MOST_FACES = search rules in
    let named : all_three (position vertices 0 false row.a) (position vertices 0 false row.b)
    (position vertices 0 false row.c) ≡ Ok (corners.a, corners.b, corners.c) = search rules in
    let lines : c.args.lines.now.later ≡ joined_lines (c.in-Some.number + 1) (lines_of text) = search rules in
    let left : c.behind_lines-2.result.later ≡ joined_lines (c.in-Some.number + 1 + 1) (lines_of row.rest.now) =
    search rules in
    let items : c.push-2.new.self.items
    ≡ was.faces.items ++ record { a = corners.a; b = corners.b; c = corners.c } ∷ [] = search rules in
    subst (λ k. ReadsOne c.args.unit vertices c.args.before c.args.lines.now.later c.behind_lines-2.result.later
    was.points.items was.points.items was.faces.items k (known was.name)) (sym items)
    (numbers_read c.args.unit vertices c.args.before c.in-Some.number text row.a row.b row.c row.rest.now corners.a
    corners.b corners.c c.args.lines.now.later c.behind_lines-2.result.later was.points.items was.faces.items
    (known was.name) p room named lines left)
