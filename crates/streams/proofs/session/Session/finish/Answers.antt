use Rattle.std.proofs.Common.{◌≡◌, ◌==◌, true, false, [], ℕ, Bool, List, length, sym, ap, ◌∙◌, arith}
use Rattle.std.proofs.lemmas.Result.{err_from_is_err_and}
use Rattle.streams.proofs.NextLines.{text_last, state_last}
use Rattle.streams.proofs.session.Session.finish.Goals as goal

-- a line of some length is not empty
not_empty : (n : ℕ) (line : List ℕ) (b : Bool) → b ≡ n == 0 → b ≡ false → n ≡ length line → line ≡ [] → ⊥
not_empty n line b p q e none = let z : n ≡ 0 = e ∙ ap length none in let t : b ≡ true = p ∙ ap (λ k. k == 0) z in cc

pub returns-in_err-answer_line-clause-front : goal.returns-in_err-answer_line-clause-front
returns-in_err-answer_line-clause-front g c =
    let p = err_from_is_err_and c.from_residual.result c.from_residual.ensures.1 in
    let s = c.args.self in
    let some : s.line.items ≡ [] → ⊥ = not_empty _ s.line.items c.is_empty.result c.is_empty.ensures c.if-is_empty.false
    (omega arith) in
    rw (p.1) (rw (text_last g.A.Answerer.text g.A.Answerer.after s.answerer s.number s.line.items s.one_line some)
    c.in_err-answer_line.ensures.front)

pub returns-clause-text : goal.returns-clause-text
returns-clause-text g c =
    let s = c.args.self in
    let some : s.line.items ≡ [] → ⊥ = not_empty _ s.line.items c.is_empty.result c.is_empty.ensures c.if-is_empty.false
    (omega arith) in
    rw (text_last g.A.Answerer.text g.A.Answerer.after s.answerer s.number s.line.items s.one_line some)
    c.in_ok-answer_line.ensures.text

pub returns-clause-state : goal.returns-clause-state
returns-clause-state g c =
    let s = c.args.self in
    let some : s.line.items ≡ [] → ⊥ = not_empty _ s.line.items c.is_empty.result c.is_empty.ensures c.if-is_empty.false
    (omega arith) in
    c.in_ok-answer_line.ensures.state ∙ sym (state_last g.A.Answerer.after s.answerer s.line.items s.one_line some)
