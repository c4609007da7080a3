use Rattle.std.proofs.Common.{subst, sym}
use Rattle.fixed_box.specs.Boxes.{Contains}
use Rattle.fixed_box.proofs.LeastBoxes.{contains_antisym}
use Rattle.walk_list.proofs.tests.moves.has_box.Goals as goal

pub returns-then-contains : goal.returns-then-contains
returns-then-contains c =
    let a = c.args.leaf.now.fit in
    let b = c.args.b.now in (
      λ t. contains_antisym a b (c.contains.ensures.0 c.if-contains.true) (c.contains-then-contains.ensures.0 t),
      λ e. c.contains-then-contains.ensures.1 (subst (Contains b) (sym e) (λ point h. h)),
    )
