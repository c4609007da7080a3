use Rattle.traversal.proofs.HitOrder.{by_number}
use Rattle.traversal.proofs.nearest_hit.comes_first.Goals as goal

pub returns-in-Equal : goal.returns-in-Equal
returns-in-Equal c = by_number c.args.a.now c.args.b.now c.in-Equal.ensures
