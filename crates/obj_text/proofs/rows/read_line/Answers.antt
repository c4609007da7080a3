use Rattle.std.proofs.Common.{rules, ◌≡◌, length, sym, subst}
use Rattle.obj_text.specs.Rows.{given_of, triangles_of}
use Rattle.obj_text.specs.Steps.{IsAdded}
use Rattle.obj_text.specs.Names.{known}
use Rattle.obj_text.proofs.Fans.{triangles_added}
use Rattle.obj_text.proofs.rows.read_line.Goals as goal

pub returns-then-eq-2-clause-added : goal.returns-then-eq-2-clause-added
returns-then-eq-2-clause-added c =
    let was = c.args.gathered.now in
    let before = c.args.before in
    let faces = length was.faces.items in
    let words = c.next_word.new.self.words in
    let given : given_of c.args.unit c.args.vertices.now before faces c.args.line.now.words
    ≡ triangles_of c.args.vertices.now before faces words = search rules in
    subst (λ k. IsAdded k was.points.items was.points.items was.faces.items c.triangles.new.faces.items
    (known was.name) (known was.name)) (sym given) (triangles_added c.args.vertices.now before words was.points.items
    was.faces.items c.triangles.new.faces.items (known was.name) (search rules))
