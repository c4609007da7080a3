use Rattle.std.proofs.Common.{◌≡◌, ◌∙◌, ℕ, ◌-◌, length, arith, refl, sym, ap, subst, Option, None}
use Rattle.std.specs.Option.{option_map}
use Rattle.std.proofs.lemmas.List.{length-map}
use Rattle.fixed_box.specs.Extent.{tri_box}
use Rattle.radix_tree.specs.Ranges.{HasRange}
use Rattle.segment_hit.specs.declared.fraction.Frac.{Frac}
use Rattle.traversal.specs.NearestOf.{parts_of}
use Rattle.traversal.specs.Nearing.{StandsIn}
use Rattle.traversal.proofs.BestHit.{nearest_of_all, some_of_all}
use Rattle.traversal.proofs.NearestWalk.{all_stand}
use Rattle.traversal.proofs.NearestValues.{value_is}
use Rattle.traversal.proofs.nearest_hit.nearest_among.Goals as goal

pub returns-clause-found : goal.returns-clause-found
returns-clause-found g c =
    let keys = c.args.t.now.keys in
    let root = c.in_ok-root.ensures in
    let range = subst (λ z. HasRange keys z 0 (length keys - 1)) (sym c.approach_to-whole.ensures.child) root.range in
    let all = all_stand c.args.t.now (g.S.Triangles.list c.args.tris.now) c.args.p c.args.q root.table c.requires.fitted in
    nearest_of_all (g.S.Triangles.list c.args.tris.now) c.args.p c.args.q (StandsIn keys 0 (length keys - 1)) all c.nearest_below.result
    (c.nearest_below.ensures _ _ range)

pub returns-clause-only : goal.returns-clause-only
returns-clause-only g c =
    let keys = c.args.t.now.keys in
    let root = c.in_ok-root.ensures in
    let range = subst (λ z. HasRange keys z 0 (length keys - 1)) (sym c.approach_to-whole.ensures.child) root.range in
    let all = all_stand c.args.t.now (g.S.Triangles.list c.args.tris.now) c.args.p c.args.q root.table c.requires.fitted in
    some_of_all (g.S.Triangles.list c.args.tris.now) c.args.p c.args.q (StandsIn keys 0 (length keys - 1)) all c.nearest_below.result
    (c.nearest_below.ensures _ _ range)

pub returns-clause-value : goal.returns-clause-value
returns-clause-value g c =
    value_is (g.S.Triangles.list c.args.tris.now) c.args.p c.args.q c.nearest_below.result (returns-clause-found g c) (returns-clause-only g c)

pub returns-in_err-root-clause-value : goal.returns-in_err-root-clause-value
returns-in_err-root-clause-value g c =
    let tris = g.S.Triangles.list c.args.tris.now in
    let empty : length tris ≡ 0 =
    omega (arith, c.in_err-root.ensures.none refl, c.requires.fitted.count, length-map tris tri_box) in
    ap (λ (o : Option (ℕ × Frac)). option_map parts_of o) c.from_residual.ensures
    ∙ value_is tris c.args.p c.args.q None tt (λ n f met. absurd (omega arith))
