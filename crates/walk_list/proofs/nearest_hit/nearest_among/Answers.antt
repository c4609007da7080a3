use Rattle.std.proofs.Common.{ℕ, length, subst, Option}
use Rattle.segment_hit.specs.declared.fraction.Frac.{Frac}
use Rattle.traversal.specs.Nearing.{Nears}
use Rattle.traversal.proofs.BestHit.{nearest_of_all, some_of_all}
use Rattle.traversal.proofs.NearestValues.{value_is}
use Rattle.walk_list.specs.Reaches.{StandsFrom}
use Rattle.walk_list.proofs.Scenes.{scene, all_stand}
use Rattle.walk_list.proofs.nearest_hit.nearest_among.Goals as goal

pub look_all-end-requires-clause-aim : goal.look_all-end-requires-clause-aim
look_all-end-requires-clause-aim g c = record {
  line = c.line_of-l.ensures;
  scene = scene c.args.f.now (g.S.Triangles.list c.args.tris.now) c.requires.over c.requires.tris;
  begins = c.requires.p;
  ends = c.requires.q;
}

pub returns-clause-found : goal.returns-clause-found
returns-clause-found g c =
    let tris = g.S.Triangles.list c.args.tris.now in
    let leaves = c.args.f.now.leaves in
    nearest_of_all tris c.args.p c.args.q (StandsFrom leaves 0 (length leaves))
    (all_stand c.args.f.now tris c.requires.over) c.look_all-end.result.hit
    (subst (λ (o : Option (ℕ × Frac)). Nears tris c.args.p c.args.q (StandsFrom leaves 0 (length leaves)) o
    c.look_all-end.result.hit)
    c.nothing-start.ensures.none c.look_all-end.ensures.nears)

pub returns-clause-only : goal.returns-clause-only
returns-clause-only g c =
    let tris = g.S.Triangles.list c.args.tris.now in
    let leaves = c.args.f.now.leaves in
    some_of_all tris c.args.p c.args.q (StandsFrom leaves 0 (length leaves))
    (all_stand c.args.f.now tris c.requires.over) c.look_all-end.result.hit
    (subst (λ (o : Option (ℕ × Frac)). Nears tris c.args.p c.args.q (StandsFrom leaves 0 (length leaves)) o
    c.look_all-end.result.hit)
    c.nothing-start.ensures.none c.look_all-end.ensures.nears)

pub returns-clause-value : goal.returns-clause-value
returns-clause-value g c =
    value_is (g.S.Triangles.list c.args.tris.now) c.args.p c.args.q c.look_all-end.result.hit (returns-clause-found g c)
    (returns-clause-only g c)
