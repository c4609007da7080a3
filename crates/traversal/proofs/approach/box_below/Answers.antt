use Rattle.std.proofs.Common.{◌≡◌, ◌∙◌, arith, sym, ap, subst, length, ◌<◌, map}
use Rattle.std.proofs.lemmas.List.{length-map}
use Rattle.fixed_box.specs.declared.shapes.Box3.{Box3}
use Rattle.fixed_box.specs.Boxes.{Contains}
use Rattle.fixed_box.specs.World.{BoxInWorld, TriInWorld}
use Rattle.fixed_box.specs.Extent.{tri_box}
use Rattle.fixed_box.proofs.InTheWorld.{box_of_tri_in_world}
use Rattle.morton_key.specs.Keys.{tri_at}
use Rattle.radix_tree.specs.declared.nodes.Node.{Node}
use Rattle.radix_tree.specs.Filling.{IsChild}
use Rattle.radix_tree.specs.Ranges.{HasRange}
use Rattle.radix_tree.specs.Table.{node_at}
use Rattle.traversal.specs.Nearest.{triangle_of}
use Rattle.traversal.specs.Nearing.{StandsIn}
use Rattle.traversal.proofs.Leaves.{read_is, from_one, has_box}
use Rattle.traversal.proofs.Looks.{looked_up_in_world}
use Rattle.traversal.proofs.Walking.{at_node, own_range}
use Rattle.traversal.proofs.Approaches.{node_read, node_contains, node_in_world}
use Rattle.traversal.proofs.approach.box_below.Goals as goal

pub triangle-requires-clause-from_one : goal.triangle-requires-clause-from_one
triangle-requires-clause-from_one g c =
    let tree = c.args.t.now in
    let boxes = map tri_box (g.S.Triangles.list c.args.tris.now) in
    let inside : c.in-Leaf.position < length tree.keys = subst (IsChild tree) c.in-Leaf.is c.requires.child in
    from_one tree c.requires.table boxes c.requires.fitted c.keys.result.now c.keys.ensures.keys
    c.in-Leaf.position inside

pub triangle-requires-clause-to_count : goal.triangle-requires-clause-to_count
triangle-requires-clause-to_count g c =
    let tree = c.args.t.now in
    let tris = g.S.Triangles.list c.args.tris.now in
    let boxes = map tri_box tris in
    let inside : c.in-Leaf.position < length tree.keys = subst (IsChild tree) c.in-Leaf.is c.requires.child in
    let box = has_box tree c.requires.table boxes c.requires.fitted c.keys.result.now c.keys.ensures.keys
    c.in-Leaf.position inside in
    omega (arith, box, length-map tris tri_box)

pub returns-in-Leaf-clause-world : goal.returns-in-Leaf-clause-world
returns-in-Leaf-clause-world g c =
    let tree = c.args.t.now in
    let tris = g.S.Triangles.list c.args.tris.now in
    let boxes = map tri_box tris in
    let inside : c.in-Leaf.position < length tree.keys = subst (IsChild tree) c.in-Leaf.is c.requires.child in
    let keys = c.keys.result.now in
    let one = from_one tree c.requires.table boxes c.requires.fitted keys c.keys.ensures.keys c.in-Leaf.position inside in
    let box = has_box tree c.requires.table boxes c.requires.fitted keys c.keys.ensures.keys c.in-Leaf.position inside in
    let looked = looked_up_in_world tris _ one (omega (arith, box, length-map tris tri_box)) c.requires.tris in
    box_of_tri_in_world c.triangle.result c.box_of.result (subst TriInWorld (sym c.triangle.ensures) looked)
    c.box_of.ensures.least

pub returns-in-Leaf-clause-contains : goal.returns-in-Leaf-clause-contains
returns-in-Leaf-clause-contains g c a b n d stands =
    let tree = c.args.t.now in
    let tris = g.S.Triangles.list c.args.tris.now in
    let i = c.in-Leaf.position in
    let inside : i < length tree.keys = subst (IsChild tree) c.in-Leaf.is c.requires.child in
    let read = read_is tree c.requires.table (map tri_box tris) c.requires.fitted c.keys.result.now c.keys.ensures.keys
    i inside in
    let range : (i ≡ a) × (i ≡ b) = subst (λ z. HasRange tree.keys z a b) c.in-Leaf.is d in
    let here : i ≡ stands.0 = omega (arith, range.0, range.1, stands.1, stands.2) in
    let same = read ∙ (ap (tri_at tree.keys) here ∙ stands.3) in
    let box : c.box_of.result ≡ tri_box (triangle_of tris n) =
    c.box_of.ensures.value ∙ ap tri_box (c.triangle.ensures ∙ ap (triangle_of tris) same) in
    subst (λ (z : Box3). Contains z (tri_box (triangle_of tris n))) (sym box) (λ p h. h)

pub returns-in-Inner-clause-world : goal.returns-in-Inner-clause-world
returns-in-Inner-clause-world g c =
    let tree = c.args.t.now in
    let k = c.in-Inner.number in
    let inside : k < length tree.nodes = subst (IsChild tree) c.in-Inner.is c.requires.child in
    subst (λ (x : Node). BoxInWorld x.fit)
    (sym (node_read tree.nodes c.nodes.result.now k c.index-nodes-number.result c.nodes.ensures.nodes inside))
    (node_in_world (g.S.Triangles.list c.args.tris.now) c.requires.tris tree c.requires.fitted k inside)

pub returns-in-Inner-clause-contains : goal.returns-in-Inner-clause-contains
returns-in-Inner-clause-contains g c a b n d stands =
    let tree = c.args.t.now in
    let tris = g.S.Triangles.list c.args.tris.now in
    let k = c.in-Inner.number in
    let inside : k < length tree.nodes = subst (IsChild tree) c.in-Inner.is c.requires.child in
    let here = at_node tree (map tri_box tris) c.args.child k c.requires.table c.requires.fitted c.requires.child
    c.in-Inner.is in
    let row = own_range here a b d in
    let x = node_at tree.nodes k in
    let own : StandsIn tree.keys x.first x.last n =
    (stands.0, omega (arith, row.0, stands.1), omega (arith, row.1, stands.2), stands.3) in
    subst (λ (x : Node). Contains x.fit (tri_box (triangle_of tris n)))
    (sym (node_read tree.nodes c.nodes.result.now k c.index-nodes-number.result c.nodes.ensures.nodes inside))
    (node_contains tree c.requires.table tris c.requires.fitted k n inside own)
