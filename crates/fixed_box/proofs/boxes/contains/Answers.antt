use Rattle.fixed_box.proofs.ByCorners.{contains_tested, contains_refused}
use Rattle.fixed_box.proofs.boxes.contains.Goals as goal

pub returns-then-at_most : goal.returns-then-at_most
returns-then-at_most c =
    contains_tested c.args.outer.now c.args.inner.now c.at_most.result c.at_most-then-at_most.result c.if-at_most.true
    c.at_most.ensures c.at_most-then-at_most.ensures

pub returns-else-at_most : goal.returns-else-at_most
returns-else-at_most c =
    contains_refused c.args.outer.now c.args.inner.now c.at_most.result c.if-at_most.false c.at_most.ensures
