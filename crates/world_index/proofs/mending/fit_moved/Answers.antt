use Rattle.std.proofs.Common.{◌∙◌, arith}
use Rattle.world_index.proofs.MendedBoxes.{all_right}
use Rattle.world_index.proofs.mending.fit_moved.Goals as goal

pub returns : goal.returns
returns c =
    all_right c.args.points.now c.args.faces.now c.loop-vertex.boxes (c.loop-vertex.auto.boxes ∙ c.requires.room)
    (λ t lt. c.loop-vertex.invariant t lt
    (λ k from below. absurd (omega (arith, from, below, c.loop-vertex-test.false))))
