use Rattle.std.proofs.Common.{◌≡◌, ◌+◌}
use Rattle.traversal.proofs.BestHit.{nears_both}
use Rattle.walk_list.specs.Leaves.{leaf_at}
use Rattle.walk_list.specs.Reaches.{StandsFrom}
use Rattle.walk_list.proofs.Visiting.{one_more_seen}
use Rattle.walk_list.proofs.nearest_hit.look_run.Goals as goal

pub loop-position-preserved : goal.loop-position-preserved
loop-position-preserved g c =
    let leaves = c.args.f.now.leaves in
    let i = c.loop-position.position in
    let first = c.args.first in
    record {
      nears = nears_both (g.S.Triangles.list c.args.tris.now) c.args.p.now c.args.q.now (StandsFrom leaves first i)
          (λ n. n ≡ (leaf_at leaves i).number) (StandsFrom leaves first (i + 1)) c.args.best.hit
          c.loop-position.so_far.hit c.look_leaf-so_far.result.hit (one_more_seen leaves first i)
          c.loop-position.invariant.nears c.look_leaf-so_far.ensures.nears;
      limit = c.look_leaf-so_far.ensures.limit;
    }
