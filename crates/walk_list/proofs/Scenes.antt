-- The leaves of a tree laid flat are the triangles that it was made of.
use Rattle.std.proofs.Common.{◌≡◌, ℕ, ◌-◌, ◌<◌, ◌≤◌, sym, ap, ◌∙◌, arith, subst, List, length, map, get_or}
use Rattle.std.specs.Prelude.{All}
use Rattle.std.proofs.lemmas.List.{get_or-map, length-map}
use Rattle.fixed_box.specs.declared.shapes.Tri.{Tri}
use Rattle.fixed_box.specs.World.{BoxInWorld, TriInWorld}
use Rattle.fixed_box.specs.Extent.{tri_box}
use Rattle.fixed_box.proofs.Extents.{tri_box-is_least}
use Rattle.fixed_box.proofs.InTheWorld.{box_of_tri_in_world}
use Rattle.morton_key.specs.Keys.{key_at, tri_at}
use Rattle.morton_key.proofs.Numbers.{tri_found}
use Rattle.radix_tree.specs.Table.{no_box}
use Rattle.radix_tree.specs.Fit.{box_of_triangle}
use Rattle.traversal.specs.Nearest.{no_tri, triangle_of}
use Rattle.traversal.proofs.Looks.{looked_up_in_world}
use Rattle.walk_list.specs.declared.records.Leaf.{Leaf}
use Rattle.walk_list.specs.Leaves.{leaf_of, leaves_of, leaf_at, no_leaf}
use Rattle.walk_list.specs.Lists.{Contents, IsOver}
use Rattle.walk_list.specs.Reaches.{IsScene, StandsFrom}

-- the box of a triangle, of the list of all their boxes
box_read : (tris : List Tri) (n : ℕ) → n - 1 < length tris →
    box_of_triangle (map tri_box tris) n ≡ tri_box (triangle_of tris n)
unfolding box_of_triangle triangle_of
box_read tris n lt = get_or-map tri_box tris (n - 1) no_tri no_box lt

module _ (f : Contents) (tris : List Tri) (over : IsOver f (map tri_box tris)) where
  -- as many leaves as triangles
  counts : (length f.leaves ≡ length over.keys) × (length over.keys ≡ length tris)
  unfolding leaves_of
  counts = (
    ap length over.leaves ∙ length-map over.keys (leaf_of (map tri_box tris)),
    sym over.count ∙ length-map tris tri_box,
  )

  -- the leaf at a position is its key's
  leaf_is : (p : ℕ) → p < length over.keys → leaf_at f.leaves p ≡ leaf_of (map tri_box tris) (key_at over.keys p)
  unfolding leaf_at leaves_of key_at
  leaf_is p lt =
      ap (λ ls. get_or ls p no_leaf) over.leaves
      ∙ get_or-map (leaf_of (map tri_box tris)) over.keys p (record { code = 0; tri = 0 }) no_leaf lt

  -- so it has that key's number
  number_is : (p : ℕ) → p < length over.keys → (leaf_at f.leaves p).number ≡ tri_at over.keys p
  unfolding leaf_of tri_at
  number_is p lt = ap (λ (l : Leaf). l.number) (leaf_is p lt)

  -- and that triangle's box
  fit_is : (p : ℕ) → p < length over.keys →
      (leaf_at f.leaves p).fit ≡ box_of_triangle (map tri_box tris) (tri_at over.keys p)
  unfolding leaf_of tri_at
  fit_is p lt = ap (λ (l : Leaf). l.fit) (leaf_is p lt)

  -- so the leaves are the triangles
  pub scene : All TriInWorld tris → IsScene f.leaves tris
  scene all = record {
    world = λ n low high. looked_up_in_world tris n low high all;
    each = λ p lt.
        let within : p < length over.keys = omega (arith, counts.0) in
        let low = over.lawful.from_one p within in
        let high = over.lawful.to_count p within in
        let same = number_is p within in
        let number = tri_at over.keys p in
        let few : number ≤ length tris = omega (arith, high, counts.1) in
        let inside : number - 1 < length tris = omega (arith, few, low) in
        let box = fit_is p within ∙ (box_read tris number inside ∙ ap (λ m. tri_box (triangle_of tris m)) (sym same)) in
        record {
          from_one = omega (arith, same, low);
          to_count = omega (arith, same, few);
          fit = box;
          world = subst BoxInWorld (sym (fit_is p within ∙ box_read tris number inside))
              (box_of_tri_in_world (triangle_of tris number) (tri_box (triangle_of tris number))
              (looked_up_in_world tris number low few all) (tri_box-is_least (triangle_of tris number)));
        };
  }

  -- and each triangle stands at a position
  pub all_stand : (n : ℕ) → 0 < n → n ≤ length tris → StandsFrom f.leaves 0 (length f.leaves) n
  all_stand n low high =
      let (i, lt, at) = tri_found over.keys over.lawful n low (omega (arith, counts.1)) in
      (i, omega arith, omega (arith, lt, counts.0), number_is i lt ∙ at)
