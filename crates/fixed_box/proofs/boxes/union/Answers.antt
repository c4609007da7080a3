use Rattle.fixed_box.proofs.Order.{lesser, greater}
use Rattle.fixed_box.proofs.LeastBoxes.{rises_joined, least_of_two_at}
use Rattle.fixed_box.proofs.Extents.{least_is_union_of}
use Rattle.fixed_box.proofs.boxes.union.Goals as goal

pub between-requires : goal.between-requires
between-requires c =
    let l = c.least.ensures in
    let g = c.greatest.ensures in
    record {
      rises = rises_joined c.args.a.now c.args.b.now c.least.result c.greatest.result
          (lesser _ _ _ l.x l.y l.z) (greater _ _ _ g.x g.y g.z);
    }

pub returns-clause-least : goal.returns-clause-least
returns-clause-least c =
    let l = c.least.ensures in
    let g = c.greatest.ensures in
    least_of_two_at c.args.a.now c.args.b.now c.between.result c.least.result c.greatest.result
    c.between.ensures.lo c.between.ensures.hi (lesser _ _ _ l.x l.y l.z) (greater _ _ _ g.x g.y g.z)

pub returns-clause-value : goal.returns-clause-value
returns-clause-value c = least_is_union_of c.args.a.now c.args.b.now c.between.result (returns-clause-least c)
