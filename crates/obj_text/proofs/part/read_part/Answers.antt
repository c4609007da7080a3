use Rattle.std.proofs.Common.{rules, ◌≡◌, ◌<◌, ◌^◌, length, subst, arith}
use Rattle.text_words.specs.Joins.{joined_lines_of}
use Rattle.obj_text.specs.Rows.{given_of}
use Rattle.obj_text.specs.Places.{before}
use Rattle.obj_text.specs.Names.{known}
use Rattle.obj_text.specs.Texts.{vertices_of}
use Rattle.obj_text.specs.Parts.{names_of}
use Rattle.obj_text.specs.PlainRows.{ReadsOne}
use Rattle.obj_text.proofs.PlacedLines.{before_less}
use Rattle.obj_text.proofs.Readings.{line_read, no_fewer}
use Rattle.obj_text.proofs.Runs.{run_ended}
use Rattle.obj_text.proofs.part.read_part.Goals as goal

pub before-before-requires : goal.before-before-requires
before-before-requires c =
    let points = length c.loop-lines.gathered.points.items in
    let count : points ≡ c.len-in-loop-lines.result = search rules in
    let small : before c.args.place points < 2 ^ 32 = omega (
      arith,
      c.loop-lines.invariant.read.within,
      before_less c.args.place points (vertices_of c.loop-lines.lines.later),
      c.requires.vertices,
    ) in
    subst (λ n. before c.args.place n < 2 ^ 32) count small

pub overflow_sub-faces : goal.overflow_sub-faces
overflow_sub-faces c =
    let was = c.loop-lines.gathered in
    let new = c.read_line.new.gathered in
    let given = given_of c.args.unit c.loop-lines.vertices c.before-before.result (length was.faces.items)
    c.next_line.new.self.words in
    let more = no_fewer given was.points.items new.points.items was.faces.items new.faces.items (known was.name)
    (known new.name) (search rules) in
    search (rules, more, c.loop-lines.invariant.ended)

pub loop-lines-preserved-in-Ok-true : goal.loop-lines-preserved-in-Ok-true
loop-lines-preserved-in-Ok-true c =
    let was = c.loop-lines.gathered in
    let new = c.read_plain.new.gathered in
    let one : ReadsOne c.args.unit c.args.vertices.now (before c.args.place (length was.points.items))
    c.loop-lines.lines.later c.read_plain.new.lines.later was.points.items new.points.items was.faces.items
    new.faces.items (known was.name) = search rules in
    let read = line_read c.args.unit c.args.vertices.now c.args.place
    (joined_lines_of c.args.bytes.now) one.line.number one.line.words c.read_plain.new.lines.later
    c.loop-lines.lines.later was.points.items new.points.items was.faces.items new.faces.items
    (names_of c.loop-lines.runs.items) c.loop-lines.in_runs (known was.name) (known was.name)
    c.loop-lines.invariant.ended one.lines_are c.loop-lines.invariant.read one.added in
    let same : known was.name ≡ known new.name = search rules in
    record { read = rw same at read.1; ended = search (rules, read.0); vertices = search rules }

pub loop-lines-preserved-then-renamed : goal.loop-lines-preserved-then-renamed
loop-lines-preserved-then-renamed c =
    let was = c.loop-lines.gathered in
    let new = c.read_line.new.gathered in
    let names = names_of c.loop-lines.runs.items in
    let read = line_read c.args.unit c.args.vertices.now c.args.place
    (joined_lines_of c.args.bytes.now) c.in-Some.line c.next_line.new.self.words c.read_line.new.line.later
    c.loop-lines.lines.later was.points.items new.points.items was.faces.items new.faces.items names
    c.loop-lines.in_runs (known was.name) (known new.name) c.loop-lines.invariant.ended (search rules)
    c.loop-lines.invariant.read (search rules) in
    let ended = run_ended names (names_of c.add_run.new.runs.items) (known was.name) (known new.name)
    c.loop-lines.in_runs (length new.faces.items) c.len-faces.result (search rules) (search rules) in
    record { read = rw ended at read.1; ended = search rules; vertices = search rules }

pub loop-lines-preserved : goal.loop-lines-preserved
loop-lines-preserved c =
    let was = c.loop-lines.gathered in
    let new = c.read_line.new.gathered in
    let read = line_read c.args.unit c.args.vertices.now c.args.place
    (joined_lines_of c.args.bytes.now) c.in-Some.line c.next_line.new.self.words c.read_line.new.line.later
    c.loop-lines.lines.later was.points.items new.points.items was.faces.items new.faces.items
    (names_of c.loop-lines.runs.items) c.loop-lines.in_runs (known was.name) (known new.name)
    c.loop-lines.invariant.ended (search rules) c.loop-lines.invariant.read (search rules) in
    let same : known was.name ≡ known new.name = search rules in
    record { read = rw same at read.1; ended = search (rules, read.0); vertices = search rules }
