use Rattle.segment_hit.proofs.Chains.{from_both, swap_both, weakly, fails}
use Rattle.segment_hit.proofs.entering.later.Goals as goal

pub returns-then-is_before : goal.returns-then-is_before
returns-then-is_before c T D k =
    from_both c.args.a c.args.b T D k (weakly _ _ (c.is_before.ensures.0 c.if-is_before.true))

pub returns-else-is_before : goal.returns-else-is_before
returns-else-is_before c T D k =
    swap_both (from_both c.args.b c.args.a T D k (fails _ _ c.is_before.result c.if-is_before.false c.is_before.ensures))
