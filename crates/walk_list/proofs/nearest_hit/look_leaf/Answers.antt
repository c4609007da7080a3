use Rattle.std.proofs.Common.{◌≡◌, subst, sym, ap, ◌∙◌}
use Rattle.fixed_box.specs.Boxes.{Contains}
use Rattle.fixed_box.specs.declared.shapes.Box3.{Box3}
use Rattle.fixed_box.specs.Extent.{tri_box}
use Rattle.traversal.specs.Nearest.{triangle_of}
use Rattle.walk_list.specs.declared.records.Leaf.{Leaf}
use Rattle.walk_list.specs.Leaves.{leaf_at}
use Rattle.walk_list.proofs.Shut.{shut_over}
use Rattle.walk_list.proofs.nearest_hit.look_leaf.Goals as goal

pub returns-then-is_shut-clause-nears : goal.returns-then-is_shut-clause-nears
returns-then-is_shut-clause-nears g c =
    let tris = g.S.Triangles.list c.args.tris.now in
    let p = c.args.p.now in
    let q = c.args.q.now in
    let leaf = leaf_at c.args.f.now.leaves c.args.position in
    let own = c.requires.aim.scene.each c.args.position c.requires.within in
    let fit = ap (λ (l : Leaf). l.fit) c.leaf_of-leaf.ensures ∙ own.fit in
    shut_over tris p q (λ n. n ≡ leaf.number) c.leaf_of-leaf.result.fit c.args.l.now.whole c.args.l.now.above
    c.passage-at.result (c.passage-at.ensures p q c.requires.aim.line)
    (λ n s. subst (λ m. Contains c.leaf_of-leaf.result.fit (tri_box (triangle_of tris m))) (sym s)
    (subst (λ (b : Box3). Contains c.leaf_of-leaf.result.fit b) fit (λ point h. h)))
    c.args.best.hit c.args.best.most.at c.requires.limit (c.is_shut.ensures c.if-is_shut.true)
