use Rattle.std.proofs.Common.{rules}
use Rattle.text_words.proofs.Endings.{may_join-ends}
use Rattle.text_words.proofs.cutting.may_join.Goals as goal

pub returns-then-ends_with : goal.returns-then-ends_with
returns-then-ends_with c = let e = may_join-ends c.args.front.now in search (rules, e)

pub returns-else-ends_with : goal.returns-else-ends_with
returns-else-ends_with c = let e = may_join-ends c.args.front.now in search (rules, e)
