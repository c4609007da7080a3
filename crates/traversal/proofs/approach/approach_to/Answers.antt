use Rattle.traversal.specs.Nearing.{StandsIn}
use Rattle.traversal.proofs.Approaches.{screened}
use Rattle.traversal.proofs.approach.approach_to.Goals as goal

pub returns-clause-screens : goal.returns-clause-screens
returns-clause-screens g c a b d =
    screened (g.S.Triangles.list c.args.tris.now) c.args.p c.args.q (StandsIn c.args.t.now.keys a b)
    c.box_below.result c.entry.result c.entry.ensures.found c.entry.ensures.only
    (λ n stands. c.box_below.ensures.contains a b n d stands)
