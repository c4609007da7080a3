use Rattle.std.proofs.Common.{inl, inr, refl}
use Rattle.world_index.proofs.live.uses_marked.Goals as goal

pub returns-then-has-clause-moved : goal.returns-then-has-clause-moved
returns-then-has-clause-moved c = λ told still.
    still c.args.face.now.a (c.has.ensures.0 c.if-has.true) (inl refl)

pub returns-then-has-2-clause-moved : goal.returns-then-has-2-clause-moved
returns-then-has-2-clause-moved c = λ told still.
    still c.args.face.now.b (c.has-2.ensures.0 c.if-has-2.true) (inr (inl refl))

pub returns-clause-moved : goal.returns-clause-moved
returns-clause-moved c = λ told still.
    still c.args.face.now.c (c.has-3.ensures.0 told) (inr (inr refl))
