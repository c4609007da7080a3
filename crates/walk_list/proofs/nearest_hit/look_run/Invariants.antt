use Rattle.traversal.specs.Nearing.{Nears}
use Rattle.walk_list.specs.Reaches.{IsLimit, StandsFrom}
use Rattle.walk_list.proofs.nearest_hit.look_run.Given as goal

abbrev pub invariant-loop-position : goal.invariant-loop-position
invariant-loop-position g l = record {
  nears : Nears (g.S.Triangles.list l.tris) l.p l.q (StandsFrom l.f.leaves l.first l.position) l.fn.best.hit
      l.so_far.hit;
  limit : IsLimit l.l.whole l.so_far.hit l.so_far.most.at;
}
