use Rattle.std.proofs.Common.{rules, false, ◌≡◌, length, drop, sym, ap, subst, ◌∙◌, Ok}
use Rattle.std.specs.Prelude.{OnOk}
use Rattle.obj_text.specs.Rows.{triangles_of}
use Rattle.obj_text.specs.Steps.{extended, first_corners_of, fan_left}
use Rattle.obj_text.proofs.Fans.{line_known, fan_is_line, corners_have_fault}
use Rattle.obj_text.proofs.rows.triangles.Goals as goal

pub returns-in_err-first-clause-fault : goal.returns-in_err-first-clause-fault
returns-in_err-first-clause-fault c =
    let fault = corners_have_fault c.args.vertices.now c.args.before c.args.faces.now.items c.args.line.now.words
    c.first_corners.result c.first_corners.ensures.corners in
    search (rules, fault)

-- what is left of the line behind its first three corners
begun : (c : goal.After-fan)
    → extended c.args.faces.now.items
    (triangles_of c.args.vertices.now c.args.before (length c.args.faces.now.items) c.args.line.now.words)
    ≡ fan_left c.first_corners.new.vertices c.args.before false c.args.faces.now.items c.in_ok-first.first
    c.in_ok-first.second c.in_ok-first.third c.first_corners.new.line.words
begun c =
    let same : c.args.vertices.now ≡ c.first_corners.new.vertices = search rules in
    let words : drop 3 c.args.line.now.words ≡ c.first_corners.new.line.words = search rules in
    let corners : first_corners_of c.args.vertices.now c.args.before c.args.line.now.words
    ≡ Ok (c.in_ok-first.first, c.in_ok-first.second, c.in_ok-first.third) = search rules in
    line_known c.args.vertices.now c.args.before c.args.faces.now.items c.args.line.now.words _ corners
    ∙ ap (λ v. fan_left v c.args.before false c.args.faces.now.items c.in_ok-first.first c.in_ok-first.second
    c.in_ok-first.third (drop 3 c.args.line.now.words)) same
    ∙ ap (fan_left c.first_corners.new.vertices c.args.before false c.args.faces.now.items c.in_ok-first.first
    c.in_ok-first.second c.in_ok-first.third) words

pub returns-clause-faces : goal.returns-clause-faces
returns-clause-faces c =
    subst (λ k. OnOk c.fan.result (k ≡ Ok c.fan.new.faces.items)) (sym (begun c)) c.fan.ensures.faces

pub returns-clause-fault : goal.returns-clause-fault
returns-clause-fault c = fan_is_line c.args.faces.now.items _ _ c.fan.result (begun c) c.fan.ensures.fault
