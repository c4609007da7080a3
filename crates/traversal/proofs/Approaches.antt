-- What the place where a segment enters the box round some triangles tells of its hits on them.
use Rattle.std.proofs.Common.{◌≡◌, ℕ, ◌+◌, ◌-◌, ◌<◌, ℤ, pos, sym, ap, ◌∙◌, arith, inl, inr, subst, List, length, get_or, map, All, Option, None, Some, IfSome, IsSome}
use Rattle.std.proofs.lemmas.Int.{ints}
use Rattle.std.proofs.lemmas.Bool.{cases_lt}
use Rattle.std.specs.Prelude.{slice_range}
use Rattle.std.proofs.lemmas.List.{get_or-map, get_or_default, length-map, get_or_past}
use Rattle.std.proofs.lemmas.List.Elements.{All-map, All-weaker, All-get_or, All-from_get_or}
use Rattle.fixed_box.specs.declared.shapes.Point.{Point}
use Rattle.fixed_box.specs.declared.shapes.Box3.{Box3}
use Rattle.fixed_box.specs.declared.shapes.Tri.{Tri}
use Rattle.fixed_box.specs.Boxes.{Contains}
use Rattle.fixed_box.specs.World.{IsCoordinate, BoxInWorld, TriInWorld}
use Rattle.fixed_box.specs.Extent.{tri_box}
use Rattle.fixed_box.specs.Extent as extent
use Rattle.fixed_box.proofs.Extents.{tri_box-is_least}
use Rattle.fixed_box.proofs.InTheWorld.{box_of_tri_in_world, least_box_in_world}
use Rattle.morton_key.specs.declared.keys.Key.{Key}
use Rattle.morton_key.specs.Keys.{tri_at}
use Rattle.radix_tree.specs.declared.nodes.Node.{Node}
use Rattle.radix_tree.specs.Table.{Contents, no_box, no_node, node_at, IsTable}
use Rattle.radix_tree.specs.Fit.{box_of_triangle, boxes_in, IsFitted}
use Rattle.radix_tree.proofs.DescentLaws.{last_at}
use Rattle.segment_hit.specs.declared.stretch.Entry.{Entry}
use Rattle.segment_hit.specs.Entering.{IsIn, IsEntry}
use Rattle.segment_hit.proofs.MeetingsInBoxes.{missed, behind}
use Rattle.traversal.specs.Nearest.{no_tri, triangle_of}
use Rattle.traversal.specs.Nearing.{StandsIn, Screens}
use Rattle.traversal.proofs.Pruning.{box_contains_triangle}

-- the box of a triangle, of the list of all their boxes
box_of_triangle-boxes : (tris : List Tri) (n : ℕ) → n - 1 < length tris →
    box_of_triangle (map tri_box tris) n ≡ tri_box (triangle_of tris n)
unfolding box_of_triangle triangle_of
box_of_triangle-boxes tris n lt = get_or-map tri_box tris (n - 1) no_tri no_box lt

-- a node that is read is the node of its number
pub node_read : (nodes read : List Node) (k : ℕ) (d : Node) → read ≡ nodes → k < length nodes →
    get_or read k d ≡ node_at nodes k
unfolding node_at
node_read nodes read k d same lt =
    ap (λ (ns : List Node). get_or ns k d) same ∙ get_or_default nodes k d no_node lt

-- a box that contains those of the triangles seen screens them
pub screened : (tris : List Tri) (p q : Point) (seen : ℕ → Type 0) (b : Box3) (o : Option Entry) →
    IfSome o (λ e. IsEntry p q b e.num e.den) → ((T D : ℤ) → IsIn p q b T D → IsSome o) →
    ((n : ℕ) → seen n → Contains b (tri_box (triangle_of tris n))) → Screens tris p q seen o
screened tris p q seen b None found only contains = record {
  missed = λ e n f s hit. missed p q (triangle_of tris n) f b None e only hit (contains n s);
  behind = tt;
}
screened tris p q seen b (Some e) found only contains = record {
  missed = λ none n f s hit. missed p q (triangle_of tris n) f b (Some e) none only hit (contains n s);
  behind = λ best far n f s hit. behind p q (triangle_of tris n) f best b e found far hit (contains n s);
}

module _ (t : Contents) (table : IsTable t) (tris : List Tri) (fitted : IsFitted t (map tri_box tris)) where
  -- each position's triangle is one of the list
  tri_inside : (i : ℕ) → i < length t.keys → tri_at t.keys i - 1 < length tris
  tri_inside i lt = omega (
    arith,
    table.lawful.from_one i lt,
    table.lawful.to_count i lt,
    fitted.count,
    length-map tris tri_box,
  )

  -- the box of a node contains that of each triangle in its range
  pub node_contains : (k n : ℕ) → k < length t.nodes →
      StandsIn t.keys (node_at t.nodes k).first (node_at t.nodes k).last n →
      Contains (node_at t.nodes k).fit (tri_box (triangle_of tris n))
  node_contains k n lt (i, low, high, at) =
      let x = node_at t.nodes k in
      let within : i < length t.keys = omega (arith, last_at t table k lt) in
      subst (λ m. Contains x.fit (tri_box (triangle_of tris m))) at
      (subst (Contains x.fit) (box_of_triangle-boxes tris (tri_at t.keys i) (tri_inside i within))
      (box_contains_triangle t (map tri_box tris) fitted k i lt low high within))

-- each box of triangles of the world is in the world
boxes_in_world : (tris : List Tri) → All TriInWorld tris → All BoxInWorld (map tri_box tris)
boxes_in_world tris all =
    All-map BoxInWorld tri_box tris
    (All-weaker TriInWorld (λ x. BoxInWorld (tri_box x))
    (λ x w. box_of_tri_in_world x (tri_box x) w (tri_box-is_least x)) tris all)

-- and so is what is read where a triangle has none
no_box_in_world : BoxInWorld no_box
unfolding no_box extent.point_box
no_box_in_world =
    let c : IsCoordinate (pos 0) = record { low = omega (arith, ints); high = omega (arith, ints) } in
    record { lo = record { x = c; y = c; z = c }; hi = record { x = c; y = c; z = c } }

module _ (boxes : List Box3) (all : All BoxInWorld boxes) where
  -- so each box that is read is
  pub read_in_world : (n : ℕ) → BoxInWorld (box_of_triangle boxes n)
  unfolding box_of_triangle
  read_in_world n = elim (cases_lt (n - 1) (length boxes)) [
    | inl lt ↦ All-get_or BoxInWorld boxes (n - 1) no_box lt all
    | inr past ↦ subst BoxInWorld (sym (get_or_past boxes (n - 1) no_box past)) no_box_in_world
  ]

  -- and the box of each node
  pub fitted_in_world : (t : Contents) → IsFitted t boxes → (k : ℕ) → k < length t.nodes →
      BoxInWorld (node_at t.nodes k).fit
  unfolding boxes_in
  fitted_in_world t fitted k lt =
      let x = node_at t.nodes k in
      let keys = slice_range t.keys x.first (x.last + 1) in
      let none : Key = record { code = 0; tri = 0 } in
      least_box_in_world (map (λ (key : Key). box_of_triangle boxes key.tri) keys) x.fit
      (All-map BoxInWorld (λ (key : Key). box_of_triangle boxes key.tri) keys
      (All-from_get_or (λ (key : Key). BoxInWorld (box_of_triangle boxes key.tri)) keys none
      (λ i within. let key : Key = get_or keys i none in read_in_world key.tri)))
      (fitted.each k lt)

-- the box of each node round triangles of the world is in it
pub node_in_world : (tris : List Tri) → All TriInWorld tris → (t : Contents) → IsFitted t (map tri_box tris) → (k : ℕ) →
    k < length t.nodes → BoxInWorld (node_at t.nodes k).fit
node_in_world tris all = fitted_in_world (map tri_box tris) (boxes_in_world tris all)
