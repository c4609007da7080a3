use Rattle.fixed_box.proofs.Order.{lesser, greater}
use Rattle.fixed_box.proofs.LeastBoxes.{rises_round_three, least_of_three_at}
use Rattle.fixed_box.proofs.Extents.{least_is_tri_box}
use Rattle.fixed_box.proofs.boxes.box_of.Goals as goal

pub between-requires : goal.between-requires
between-requires c =
    let t = c.args.t.now in
    let l = c.least.ensures in
    let m = c.least-lo.ensures in
    let g = c.greatest.ensures in
    let h = c.greatest-hi.ensures in
    record {
      rises = rises_round_three t.a t.b t.c c.least.result c.least-lo.result c.greatest.result c.greatest-hi.result
          (lesser _ _ _ l.x l.y l.z) (lesser _ _ _ m.x m.y m.z) (greater _ _ _ g.x g.y g.z) (greater _ _ _ h.x h.y h.z);
    }

pub returns-clause-least : goal.returns-clause-least
returns-clause-least c =
    let t = c.args.t.now in
    let l = c.least.ensures in
    let m = c.least-lo.ensures in
    let g = c.greatest.ensures in
    let h = c.greatest-hi.ensures in
    least_of_three_at t.a t.b t.c c.between.result
    c.least.result c.least-lo.result c.greatest.result c.greatest-hi.result
    c.between.ensures.lo c.between.ensures.hi
    (lesser _ _ _ l.x l.y l.z) (lesser _ _ _ m.x m.y m.z) (greater _ _ _ g.x g.y g.z) (greater _ _ _ h.x h.y h.z)

pub returns-clause-value : goal.returns-clause-value
returns-clause-value c = least_is_tri_box c.args.t.now c.between.result (returns-clause-least c)
