use Rattle.std.proofs.Common.{◌+◌, sym, ◌∙◌, arith}
use Rattle.text_words.proofs.CutPlaces.{next_feed, none_joined, none_left, length-cut, cut_behind, lines_cut}
use Rattle.text_words.proofs.cutting.halves.Goals as goal

pub returns-then-not-may_join-clause-lines : goal.returns-then-not-may_join-clause-lines
returns-then-not-may_join-clause-lines c =
    let at = c.loop-ahead.from + c.in-Some.ahead in
    let found = c.in-Some.ensures in
    let next = next_feed c.args.text.now _ _ c.loop-ahead.invariant.none found.0.before found.0.high found.1 in
    lines_cut c.args.text.now at next (sym c.may_join.ensures ∙ c.if-not-may_join.true)

pub returns-then-not-may_join-clause-place : goal.returns-then-not-may_join-clause-place
returns-then-not-may_join-clause-place c =
    let at = c.loop-ahead.from + c.in-Some.ahead in
    let found = c.in-Some.ensures in
    let next = next_feed c.args.text.now _ _ c.loop-ahead.invariant.none found.0.before found.0.high found.1 in
    cut_behind c.args.text.now at next (omega (arith, c.loop-ahead.invariant.behind))
    (sym c.may_join.ensures ∙ c.if-not-may_join.true)

pub returns-then-not-may_join-clause-first : goal.returns-then-not-may_join-clause-first
returns-then-not-may_join-clause-first c = λ place p.
    let found = c.in-Some.ensures in
    let next = next_feed c.args.text.now _ _ c.loop-ahead.invariant.none found.0.before found.0.high found.1 in
    omega (arith, next.none place p, length-cut c.args.text.now _ next.inside)

pub loop-ahead-preserved : goal.loop-ahead-preserved
loop-ahead-preserved c =
    let at = c.loop-ahead.from + c.in-Some.ahead in
    let found = c.in-Some.ensures in
    let next = next_feed c.args.text.now _ _ c.loop-ahead.invariant.none found.0.before found.0.high found.1 in
    record {
      inside = omega (arith, next.inside);
      behind = omega (arith, c.loop-ahead.invariant.behind);
      none = none_joined c.args.text.now at next (sym c.may_join.ensures ∙ c.if-not-may_join.false);
    }

pub returns-clause-none : goal.returns-clause-none
returns-clause-none c =
    none_left c.args.text.now _ c.loop-ahead.invariant.inside c.loop-ahead.invariant.none c.in_default.ensures
