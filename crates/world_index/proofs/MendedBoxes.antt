-- The boxes of triangles while some of them are made anew.
use Rattle.std.proofs.Common.{◌≡◌, ℕ, ◌-◌, ◌<◌, ◌≤◌, inl, inr, sym, ap, ◌∙◌, arith, subst, List, length, get_or, set}
use Rattle.std.proofs.lemmas.Bool.{cases_eq, cases_lt}
use Rattle.std.proofs.lemmas.List.{get_or-set_same, get_or-set_other, ext_get_or, get_or-map, length-map}
use Rattle.fixed_box.specs.Extent.{tri_box}
use Rattle.fixed_box.specs.declared.shapes.Point.{Point}
use Rattle.fixed_box.specs.declared.shapes.Box3.{Box3}
use Rattle.obj_text.specs.declared.face.Face.{Face}
use Rattle.radix_tree.specs.Table.{no_box}
use Rattle.world_index.specs.Worlds.{tri_of, tris_at, boxes_at}
use Rattle.world_index.specs.Fans.{face_at, HasVertex, IsLatest}
use Rattle.world_index.specs.Kept.{box_at, IsRight}

-- there is a box for each face
pub length-boxes_at : (points : List Point) (faces : List Face) → length (boxes_at points faces) ≡ length faces
length-boxes_at points faces = length-map (tris_at points faces) tri_box ∙ length-map faces (tri_of points)

-- that of the triangle at a position
pub get_or-boxes_at : (points : List Point) (faces : List Face) (t : ℕ) (d : Box3) → t < length faces →
    get_or (boxes_at points faces) t d ≡ box_at points faces t
get_or-boxes_at points faces t d lt =
    get_or-map tri_box (tris_at points faces) t (tri_of points (record { a = 0; b = 0; c = 0 })) d
    (omega (arith, lt, length-map faces (tri_of points)))
    ∙ ap tri_box (get_or-map (tri_of points) faces t _ _ lt)

module _ (points : List Point) (faces : List Face) where
  -- boxes that are all right are the list of them
  pub all_right : (boxes : List Box3) → length boxes ≡ length faces →
      ((t : ℕ) → t < length faces → IsRight points faces boxes t) → boxes ≡ boxes_at points faces
  all_right boxes count right = ext_get_or no_box boxes (boxes_at points faces)
      (count ∙ sym (length-boxes_at points faces))
      (λ t lt. right t (omega (arith, lt, count))
      ∙ sym (get_or-boxes_at points faces t no_box (omega (arith, lt, count))))

  -- and in that list each is right
  pub right_in_list : (boxes : List Box3) (t : ℕ) → t < length faces → boxes ≡ boxes_at points faces →
      IsRight points faces boxes t
  right_in_list boxes t lt e = ap (λ bs. get_or bs t no_box) e ∙ get_or-boxes_at points faces t no_box lt

  module _ (boxes : List Box3) (count : length boxes ≡ length faces) (t : ℕ) (inside : t < length faces) (box : Box3)
      (made : box ≡ box_at points faces t) where
    -- the box that is written is right
    pub written : IsRight points faces (set boxes t box) t
    written = get_or-set_same boxes t box no_box (omega (arith, inside, count)) ∙ made

    -- and each that was right stays so
    pub others_stay : (u : ℕ) → IsRight points faces boxes u → IsRight points faces (set boxes t box) u
    others_stay u right = elim (cases_eq u t) [
      | inl e ↦ subst (IsRight points faces (set boxes t box)) (sym e) written
      | inr ne ↦ get_or-set_other boxes t u box no_box ne ∙ right
    ]

    -- the triangles of a vertex from a position on are right: a step further back along the chain
    pub one_back : (v next x : ℕ) → next - 1 ≡ t → 0 < next → IsLatest faces t v x →
        ((u : ℕ) → u < length faces → HasVertex (face_at faces u) v → next ≤ u → IsRight points faces boxes u) →
        (u : ℕ) → u < length faces → HasVertex (face_at faces u) v → x ≤ u →
        IsRight points faces (set boxes t box) u
    one_back v next x at some latest done u lt has from = elim (cases_lt u t) [
      | inl before ↦ absurd (omega (arith, latest.all u before has))
      | inr behind ↦ elim (cases_eq u t) [
        | inl e ↦ subst (IsRight points faces (set boxes t box)) (sym e) written
        | inr ne ↦ others_stay u (done u lt has (omega arith))
      ]
    ]
