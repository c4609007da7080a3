use Rattle.fixed_box.proofs.Order.{lesser, greater, lesser_below_greater}
use Rattle.fixed_box.proofs.LeastBoxes.{least_of_corners_at}
use Rattle.fixed_box.proofs.Extents.{least_is_corner_box}
use Rattle.fixed_box.proofs.shapes.Box3.of_corners.Goals as goal

pub between-requires : goal.between-requires
between-requires c =
    let l = c.least.ensures in
    let g = c.greatest.ensures in
    record {
      rises = lesser_below_greater c.args.p c.args.q c.least.result c.greatest.result
          (lesser _ _ _ l.x l.y l.z) (greater _ _ _ g.x g.y g.z);
    }

pub returns-clause-least : goal.returns-clause-least
returns-clause-least c =
    let l = c.least.ensures in
    let g = c.greatest.ensures in
    least_of_corners_at c.args.p c.args.q c.between.result c.least.result c.greatest.result
    c.between.ensures.lo c.between.ensures.hi (lesser _ _ _ l.x l.y l.z) (greater _ _ _ g.x g.y g.z)

pub returns-clause-value : goal.returns-clause-value
returns-clause-value c = least_is_corner_box c.args.p c.args.q c.between.result (returns-clause-least c)
