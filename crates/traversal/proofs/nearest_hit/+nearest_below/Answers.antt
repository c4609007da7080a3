use Rattle.std.proofs.Common.{◌≡◌, arith, subst, length, ◌<◌, map, None, rules}
use Rattle.std.proofs.lemmas.List.{length-map}
use Rattle.fixed_box.specs.Extent.{tri_box}
use Rattle.radix_tree.specs.Filling.{IsChild}
use Rattle.traversal.specs.Nearing.{StandsIn}
use Rattle.traversal.proofs.Leaves.{read_is, from_one, has_box}
use Rattle.traversal.proofs.Walking.{at_node, left_is_child, right_is_child}
use Rattle.traversal.proofs.NearestWalk.{leaf_seen, missed_over, far_over, is_side, swapped, in_order, side_goes, both_seen}
use Rattle.traversal.proofs.nearest_hit.+nearest_below.Goals as goal

pub returns-in_default : goal.returns-in_default
returns-in_default g t c a b d =
    let none : c.args.way.at ≡ None = search rules in
    missed_over c.args.t.now (g.S.Triangles.list c.args.tris.now) c.args.p c.args.q (StandsIn c.args.t.now.keys a b)
    c.args.way.at c.args.best (c.requires.screens a b d) none

pub returns-then-is_too_far : goal.returns-then-is_too_far
returns-then-is_too_far g t c a b d =
    far_over c.args.t.now (g.S.Triangles.list c.args.tris.now) c.args.p c.args.q (StandsIn c.args.t.now.keys a b)
    c.args.way.at c.in-Some.at c.args.best (c.requires.screens a b d) c.in-Some.is
    (c.is_too_far.ensures c.if-is_too_far.true)

pub with_triangle-requires-clause-from_one : goal.with_triangle-requires-clause-from_one
with_triangle-requires-clause-from_one g t c =
    let tree = c.args.t.now in
    let boxes = map tri_box (g.S.Triangles.list c.args.tris.now) in
    let inside : c.in-Leaf.position < length tree.keys = subst (IsChild tree) c.in-Leaf.is c.requires.child in
    from_one tree c.requires.table boxes c.requires.fitted c.keys.result.now c.keys.ensures.keys
    c.in-Leaf.position inside

pub with_triangle-requires-clause-to_count : goal.with_triangle-requires-clause-to_count
with_triangle-requires-clause-to_count g t c =
    let tree = c.args.t.now in
    let tris = g.S.Triangles.list c.args.tris.now in
    let boxes = map tri_box tris in
    let inside : c.in-Leaf.position < length tree.keys = subst (IsChild tree) c.in-Leaf.is c.requires.child in
    let box = has_box tree c.requires.table boxes c.requires.fitted c.keys.result.now c.keys.ensures.keys
    c.in-Leaf.position inside in
    omega (arith, box, length-map tris tri_box)

pub returns-in-Leaf : goal.returns-in-Leaf
returns-in-Leaf g t c =
    let tree = c.args.t.now in
    let tris = g.S.Triangles.list c.args.tris.now in
    let inside : c.in-Leaf.position < length tree.keys = subst (IsChild tree) c.in-Leaf.is c.requires.child in
    leaf_seen tree tris c.args.p c.args.q c.args.way.child c.in-Leaf.position _ c.args.best
    c.with_triangle.result c.in-Leaf.is
    (read_is tree c.requires.table (map tri_box tris) c.requires.fitted c.keys.result.now c.keys.ensures.keys
    c.in-Leaf.position inside)
    c.with_triangle.ensures

pub approach_to-on_left-requires-clause-child : goal.approach_to-on_left-requires-clause-child
approach_to-on_left-requires-clause-child g t c =
    let here = at_node c.args.t.now (map tri_box (g.S.Triangles.list c.args.tris.now)) c.args.way.child
    c.in-Inner.number c.requires.table c.requires.fitted c.requires.child c.in-Inner.is in
    left_is_child here c.left.result c.left.ensures

pub approach_to-on_right-requires-clause-child : goal.approach_to-on_right-requires-clause-child
approach_to-on_right-requires-clause-child g t c =
    let here = at_node c.args.t.now (map tri_box (g.S.Triangles.list c.args.tris.now)) c.args.way.child
    c.in-Inner.number c.requires.table c.requires.fitted c.requires.child c.in-Inner.is in
    right_is_child here c.right.result c.right.ensures

pub nearest_below-nearer-requires : goal.nearest_below-nearer-requires
nearest_below-nearer-requires g t c κs within =
    let tree = c.args.t.now in
    let tris = g.S.Triangles.list c.args.tris.now in
    let r = c.requires in
    let here = at_node tree (map tri_box tris) c.args.way.child c.in-Inner.number r.table r.fitted r.child
    c.in-Inner.is in
    let l = c.approach_to-on_left in
    let m = c.approach_to-on_right in
    let sides = in_order tree tris c.args.p c.args.q c.in_order.result.0 c.in_order.result.1 l.result m.result _ _ _
    (is_side tree tris c.args.p c.args.q l.result c.left.result _ _ l.ensures.child c.left.ensures l.ensures.screens)
    (is_side tree tris c.args.p c.args.q m.result c.right.result _ _ m.ensures.child c.right.ensures m.ensures.screens)
    c.in_order.ensures in
    let goes = side_goes tree tris c.args.p c.args.q here c.in_order.result.0 c.in_order.result.1 sides in
    (omega (arith, goes.falls), (within, (r.table, (r.fitted, (r.tris, (r.p, (r.q, (goes.stands, goes.screens))))))))

pub nearest_below-requires : goal.nearest_below-requires
nearest_below-requires g t c κs within =
    let tree = c.args.t.now in
    let tris = g.S.Triangles.list c.args.tris.now in
    let r = c.requires in
    let here = at_node tree (map tri_box tris) c.args.way.child c.in-Inner.number r.table r.fitted r.child
    c.in-Inner.is in
    let l = c.approach_to-on_left in
    let m = c.approach_to-on_right in
    let sides = swapped tree tris c.args.p c.args.q c.in_order.result.0 c.in_order.result.1 _ _ _
    (in_order tree tris c.args.p c.args.q c.in_order.result.0 c.in_order.result.1 l.result m.result _ _ _
    (is_side tree tris c.args.p c.args.q l.result c.left.result _ _ l.ensures.child c.left.ensures l.ensures.screens)
    (is_side tree tris c.args.p c.args.q m.result c.right.result _ _ m.ensures.child c.right.ensures m.ensures.screens)
    c.in_order.ensures) in
    let goes = side_goes tree tris c.args.p c.args.q here c.in_order.result.1 c.in_order.result.0 sides in
    (omega (arith, goes.falls), (within, (r.table, (r.fitted, (r.tris, (r.p, (r.q, (goes.stands, goes.screens))))))))

pub returns-in-Inner : goal.returns-in-Inner
returns-in-Inner g t c =
    let tree = c.args.t.now in
    let tris = g.S.Triangles.list c.args.tris.now in
    let r = c.requires in
    let here = at_node tree (map tri_box tris) c.args.way.child c.in-Inner.number r.table r.fitted r.child
    c.in-Inner.is in
    let l = c.approach_to-on_left in
    let m = c.approach_to-on_right in
    let sides = in_order tree tris c.args.p c.args.q c.in_order.result.0 c.in_order.result.1 l.result m.result _ _ _
    (is_side tree tris c.args.p c.args.q l.result c.left.result _ _ l.ensures.child c.left.ensures l.ensures.screens)
    (is_side tree tris c.args.p c.args.q m.result c.right.result _ _ m.ensures.child c.right.ensures m.ensures.screens)
    c.in_order.ensures in
    both_seen tree tris c.args.p c.args.q here c.in_order.result.0 c.in_order.result.1 sides c.args.best
    c.nearest_below-nearer.result c.nearest_below.result c.nearest_below-nearer.ensures c.nearest_below.ensures
