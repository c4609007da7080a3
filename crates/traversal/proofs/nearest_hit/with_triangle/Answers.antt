use Rattle.std.proofs.Common.{◌≡◌, subst, sym}
use Rattle.fixed_box.specs.declared.shapes.Tri.{Tri}
use Rattle.fixed_box.specs.World.{TriInWorld}
use Rattle.segment_hit.specs.Meeting.{IsHit}
use Rattle.segment_hit.proofs.HitFractions.{one_hit}
use Rattle.traversal.specs.Nearest.{triangle_of}
use Rattle.traversal.proofs.BestHit.{nears_none, nears_met}
use Rattle.traversal.proofs.Looks.{looked_up_in_world}
use Rattle.traversal.proofs.nearest_hit.with_triangle.Goals as goal

pub hit-requires-clause-t : goal.hit-requires-clause-t
hit-requires-clause-t g c =
    subst TriInWorld (sym c.triangle.ensures)
    (looked_up_in_world (g.S.Triangles.list c.args.tris.now) c.args.number c.requires.from_one c.requires.to_count
    c.requires.tris)

pub returns-in-Some : goal.returns-in-Some
returns-in-Some g c =
    let tris = g.S.Triangles.list c.args.tris.now in
    let p = c.args.p in
    let q = c.args.q in
    let at = c.in-Some.at in
    let found : IsHit p q (triangle_of tris c.args.number) at =
    subst (λ (t : Tri). IsHit p q t at) c.triangle.ensures c.in-Some.ensures.found in
    nears_met tris p q c.args.number at c.args.best c.better.result c.requires.from_one c.requires.to_count found
    (λ f other. one_hit p q _ f at other found)
    c.better.ensures.taken c.better.ensures.found c.better.ensures.best

pub returns-in-None : goal.returns-in-None
returns-in-None g c =
    let tris = g.S.Triangles.list c.args.tris.now in
    let p = c.args.p in
    let q = c.args.q in
    nears_none tris p q (λ n. n ≡ c.args.number) c.args.best
    (λ n f same hit.
    let named = subst (λ m. IsHit p q (triangle_of tris m) f) same hit in
    let own = subst (λ (t : Tri). IsHit p q t f) (sym c.triangle.ensures) named in
    c.in-None.ensures.only own.0 own.1 own.2)
