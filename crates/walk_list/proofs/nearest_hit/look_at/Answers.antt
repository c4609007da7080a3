use Rattle.std.proofs.Common.{◌≡◌, subst, sym, Option, ℕ}
use Rattle.fixed_box.specs.declared.shapes.Tri.{Tri}
use Rattle.segment_hit.specs.declared.fraction.Frac.{Frac}
use Rattle.segment_hit.specs.Meeting.{IsHit}
use Rattle.segment_hit.proofs.HitFractions.{one_hit, hit_begun, hit_ended}
use Rattle.traversal.specs.Nearest.{triangle_of}
use Rattle.traversal.specs.Nearing.{Nears}
use Rattle.traversal.proofs.BestHit.{nears_met}
use Rattle.walk_list.proofs.LookedAt.{part_begun, part_ended}
use Rattle.walk_list.proofs.nearest_hit.look_at.Goals as goal

pub renewed-requires-clause-begun : goal.renewed-requires-clause-begun
renewed-requires-clause-begun g c =
    part_begun c.args.l.now.whole c.args.best.hit c.args.best.most.at c.args.number c.in-Some.at c.better.result
    c.requires.limit c.better.ensures.taken
    (hit_begun c.args.p.now c.args.q.now c.triangle.result c.in-Some.at c.in-Some.ensures.found)

pub renewed-requires-clause-ended : goal.renewed-requires-clause-ended
renewed-requires-clause-ended g c =
    part_ended c.args.l.now.whole c.args.best.hit c.args.best.most.at c.args.number c.in-Some.at c.better.result
    c.requires.limit c.better.ensures.taken
    (hit_ended c.args.p.now c.args.q.now c.triangle.result c.in-Some.at c.in-Some.ensures.found)

pub returns-in-Some-clause-nears : goal.returns-in-Some-clause-nears
returns-in-Some-clause-nears g c =
    let tris = g.S.Triangles.list c.args.tris.now in
    let p = c.args.p.now in
    let q = c.args.q.now in
    let at = c.in-Some.at in
    let found : IsHit p q (triangle_of tris c.args.number) at =
    subst (λ (t : Tri). IsHit p q t at) c.triangle.ensures c.in-Some.ensures.found in
    subst (λ (o : Option (ℕ × Frac)). Nears tris p q (λ n. n ≡ c.args.number) c.args.best.hit o)
    (sym c.renewed.ensures.hit)
    (nears_met tris p q c.args.number at c.args.best.hit c.better.result c.requires.from_one c.requires.to_count found
    (λ f other. one_hit p q _ f at other found)
    c.better.ensures.taken c.better.ensures.found c.better.ensures.best)
