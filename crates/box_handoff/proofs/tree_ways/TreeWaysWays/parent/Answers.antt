use Rattle.std.proofs.Common.{arith, ap, ◌∙◌, sym, ◌≡◌, ◌-◌, ℕ, suc, get_or, length, ◌<◌}
use Rattle.box_handoff.proofs.EndLaws.{left_found, right_found, none_found}
use Rattle.box_handoff.proofs.tree_ways.TreeWaysWays.parent.Goals as goal

pub returns-then-stands_at : goal.returns-then-stands_at
returns-then-stands_at c = λ keys ends. let h = c.stands_at.ensures.yes c.if-stands_at.true in
    sym (left_found keys c.args.self.now.first.items c.args.self.now.last.items ends c.args.first c.args.last h.0 h.1)

pub returns-then-first-eq0 : goal.returns-then-first-eq0
returns-then-first-eq0 c = λ keys ends. sym (none_found keys c.args.self.now.first.items c.args.self.now.last.items
    ends c.args.first c.args.last (c.stands_at.ensures.no c.if-stands_at.false)
    (λ s e l is. let z = c.if-first-eq0.true in omega arith))

pub returns-then-stands_at-2 : goal.returns-then-stands_at-2
returns-then-stands_at-2 c = λ keys ends. let h = c.stands_at-2.ensures.yes c.if-stands_at-2.true in
    let e : c.args.first ≡ suc (c.args.first - 1) = omega arith in
    sym (right_found keys c.args.self.now.first.items c.args.self.now.last.items ends c.args.first c.args.last
    (c.args.first - 1) e h.0 h.1)

pub returns : goal.returns
returns c = λ keys ends. sym (none_found keys c.args.self.now.first.items c.args.self.now.last.items ends c.args.first
    c.args.last (c.stands_at.ensures.no c.if-stands_at.false)
    (λ s e l is. let z : s ≡ c.args.first - 1 = omega arith in
    c.stands_at-2.ensures.no c.if-stands_at-2.false (let y : c.args.first - 1 < length c.args.self.now.last.items
    = omega arith in y) (ap (λ (n : ℕ). get_or c.args.self.now.last.items n 0) (sym z) ∙ is)))
