use Rattle.std.proofs.Common.{◌+◌, ◌++◌, ◌∷◌, length, sym, ap, ◌∙◌, subst, arith, length-append}
use Rattle.std.proofs.lemmas.Result.{err_from_is_err_and}
use Rattle.streams.specs.Owed.{Owes}
use Rattle.streams.proofs.Debts.{owes_less, owes_front}
use Rattle.streams.proofs.NextLines.{ended_line, text_next, state_next, same_text, same_state}
use Rattle.streams.proofs.session.Session.feed.Goals as goal

pub returns-in_default-extend_from_slice-clause-front : goal.returns-in_default-extend_from_slice-clause-front
returns-in_default-extend_from_slice-clause-front g c =
    λ unfinished more. (_, c.loop-front.invariant.owes unfinished more)

pub returns-in_default-extend_from_slice-2-clause-front : goal.returns-in_default-extend_from_slice-2-clause-front
returns-in_default-extend_from_slice-2-clause-front g c =
    λ unfinished more. (_, c.loop-front.invariant.owes unfinished more)

pub returns-in_err-answer_line-clause-front : goal.returns-in_err-answer_line-clause-front
returns-in_err-answer_line-clause-front g c = λ unfinished more.
    let p = err_from_is_err_and c.from_residual.result c.from_residual.ensures.1 in
    let s = c.loop-front.self in
    let front = c.in-Some.front.now in
    let ended = c.extend_from_slice.new.self.items in
    let whole = ended_line s.line.items front ended c.in-Ok.ensures.items s.one_line c.in-Some.ensures.0 in
    rw (p.1) (owes_front _ _ _ _ _ _ _ (c.loop-front.invariant.owes unfinished more)
    (text_next g.A.Answerer.text g.A.Answerer.after s.answerer s.number unfinished s.line.items front c.in-Some.back.now
    c.loop-front.rest.now more ended
    c.in-Ok.ensures.items c.in-Some.ensures.1 whole) c.in_err-answer_line.ensures.front)

pub loop-front-preserved : goal.loop-front-preserved
loop-front-preserved g c =
    let text = g.A.Answerer.text in
    let after = g.A.Answerer.after in
    let s = c.loop-front.self in
    let t = c.answer_line.new.self in
    let front = c.in-Some.front.now in
    let back = c.in-Some.back.now in
    let ended = c.extend_from_slice.new.self.items in
    let whole = ended_line s.line.items front ended c.in-Ok.ensures.items s.one_line c.in-Some.ensures.0 in
    let done = c.in_ok-answer_line.ensures in
    record {
      one_line = t.one_line;
      owes = λ unfinished more.
          subst (Owes _ _ _) (same_text text after (after s.answerer ended) t.answerer (s.number + 1) t.number
          unfinished t.line.items (back ++ more) done.state done.number done.line)
          (owes_less _ _ _ _ _ _ _ (c.loop-front.invariant.owes unfinished more)
          (text_next text after s.answerer s.number unfinished s.line.items front back c.loop-front.rest.now more ended
          c.in-Ok.ensures.items c.in-Some.ensures.1 whole) done.text);
      state = λ unfinished more.
          same_state after (after s.answerer ended) t.answerer unfinished t.line.items (back ++ more) done.state
          done.line
          ∙ sym (state_next after s.answerer unfinished s.line.items front back c.loop-front.rest.now more ended
          c.in-Ok.ensures.items c.in-Some.ensures.1 whole)
          ∙ c.loop-front.invariant.state unfinished more;
      number = omega (
        arith,
        ap length c.in-Some.ensures.1,
        length-append front (10 ∷ back),
        done.number,
        c.loop-front.invariant.number,
      );
      kept = done.stops.kept (λ no. absurd (let clash : ⊥ = cc in clash)) ∙ c.loop-front.invariant.kept;
    }
