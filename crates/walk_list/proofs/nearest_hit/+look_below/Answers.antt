use Rattle.std.proofs.Common.{◌≤◌, length, subst, sym, arith}
use Rattle.traversal.proofs.BestHit.{nears_both}
use Rattle.walk_list.specs.declared.records.Record.{Record}
use Rattle.walk_list.specs.Records.{record_at}
use Rattle.traversal.specs.Nearing.{Nears}
use Rattle.walk_list.specs.Reaches.{StandsFrom}
use Rattle.walk_list.specs.Visits.{LeavesOf}
use Rattle.walk_list.proofs.Shut.{shut_over}
use Rattle.walk_list.proofs.Subtrees.{own_bounds}
use Rattle.walk_list.proofs.Visiting.{visit_contains}
use Rattle.walk_list.proofs.nearest_hit.+look_below.Goals as goal

pub returns-then-is_shut-clause-nears : goal.returns-then-is_shut-clause-nears
returns-then-is_shut-clause-nears g t c =
    let tris = g.S.Triangles.list c.args.tris.now in
    let f = c.args.f.now in
    let v = c.args.v in
    let own = c.requires.visit in
    shut_over tris c.args.p.now c.args.q.now (LeavesOf f v)
    (record_at f.records v.at).fit c.args.l.now.whole c.args.l.now.above v.way own.way
    (visit_contains f tris v.at v.position own.subtree c.requires.aim.scene)
    c.args.best.hit c.args.best.most.at c.requires.limit (c.is_shut.ensures c.if-is_shut.true)

pub look_run-requires-clause-order : goal.look_run-requires-clause-order
look_run-requires-clause-order g t c =
    let f = c.args.f.now in
    let own = own_bounds f.leaves f.records c.args.v.at c.args.v.position c.requires.visit.subtree in
    subst (λ (r : Record). c.args.v.position ≤ r.end) (sym c.record_of-r.ensures) (omega (arith, own.order))

pub look_run-requires-clause-within : goal.look_run-requires-clause-within
look_run-requires-clause-within g t c =
    subst (λ (r : Record). r.end ≤ length c.args.f.now.leaves) (sym c.record_of-r.ensures)
    c.requires.visit.subtree.inside

pub look_below-nearer-requires : goal.look_below-nearer-requires
look_below-nearer-requires g t c κs within =
    let r = c.requires in
    let both = c.parts.ensures c.args.p.now c.args.q.now r.aim.line in
    let on = both.first_on in
    let inside = both.first.within in
    (omega (arith, on, inside), (within, (r.aim, (both.first, r.limit))))

pub look_below-requires : goal.look_below-requires
look_below-requires g t c κs within =
    let r = c.requires in
    let both = c.parts.ensures c.args.p.now c.args.q.now r.aim.line in
    let on = both.second_on in
    let inside = both.second.within in
    let limit = c.look_below-nearer.ensures.limit in
    (omega (arith, on, inside), (within, (r.aim, (both.second, limit))))

pub returns-clause-nears : goal.returns-clause-nears
returns-clause-nears g t c =
    let f = c.args.f.now in
    let both = c.parts.ensures c.args.p.now c.args.q.now c.requires.aim.line in
    nears_both (g.S.Triangles.list c.args.tris.now) c.args.p.now c.args.q.now (LeavesOf f c.parts.result.0)
    (LeavesOf f c.parts.result.1) (LeavesOf f c.args.v) c.args.best.hit c.look_below-nearer.result.hit
    c.look_below.result.hit both.all c.look_below-nearer.ensures.nears c.look_below.ensures.nears

pub returns-then-r-eq1-clause-nears : goal.returns-then-r-eq1-clause-nears
returns-then-r-eq1-clause-nears g t c =
    let tris = g.S.Triangles.list c.args.tris.now in
    subst (λ (r : Record). Nears tris c.args.p.now c.args.q.now
    (StandsFrom c.args.f.now.leaves c.args.v.position r.end) c.args.best.hit c.look_run.result.hit)
    c.record_of-r.ensures c.look_run.ensures.nears
