use Rattle.std.proofs.Common.{◌<◌, length, subst, rules}
use Rattle.traversal.specs.Nearing.{Nears}
use Rattle.walk_list.specs.Records.{record_at}
use Rattle.walk_list.specs.Reaches.{StandsFrom}
use Rattle.walk_list.proofs.Subtrees.{whole_subtree}
use Rattle.walk_list.proofs.Visiting.{root_visit}
use Rattle.walk_list.proofs.nearest_hit.look_all.Goals as goal

pub visit-whole-requires-clause-subtree : goal.visit-whole-requires-clause-subtree
visit-whole-requires-clause-subtree g c =
    let f = c.args.f.now in
    let some : 0 < length f.records = search rules in
    (whole_subtree f.leaves f.records c.records.ensures.covers some).0

pub look_below-requires-clause-visit : goal.look_below-requires-clause-visit
look_below-requires-clause-visit g c =
    let f = c.args.f.now in
    let some : 0 < length f.records = search rules in
    let p = c.args.p.now in
    let q = c.args.q.now in
    let v = c.visit-whole.result in
    root_visit f p q c.args.l.now.whole v (whole_subtree f.leaves f.records c.records.ensures.covers some).0 some
    c.visit-whole.ensures.at c.visit-whole.ensures.position (c.visit-whole.ensures.way p q c.requires.aim.line)

pub returns : goal.returns
returns g c =
    let f = c.args.f.now in
    let some : 0 < length f.records = search rules in
    let whole = whole_subtree f.leaves f.records c.records.ensures.covers some in
    record {
      nears = subst (λ n. Nears (g.S.Triangles.list c.args.tris.now) c.args.p.now c.args.q.now
          (StandsFrom f.leaves 0 n) c.args.best.hit c.look_below.result.hit) whole.1
          (subst (λ n. Nears (g.S.Triangles.list c.args.tris.now) c.args.p.now c.args.q.now
          (StandsFrom f.leaves 0 (record_at f.records n).end) c.args.best.hit c.look_below.result.hit)
          c.visit-whole.ensures.at
          (subst (λ n. Nears (g.S.Triangles.list c.args.tris.now) c.args.p.now c.args.q.now
          (StandsFrom f.leaves n (record_at f.records c.visit-whole.result.at).end) c.args.best.hit
          c.look_below.result.hit) c.visit-whole.ensures.position c.look_below.ensures.nears));
    }
