-- The boxes that `specs/Extent` gives by coordinates are the least boxes, and they join in any order and grouping.
use Rattle.std.proofs.Common.{◌≡◌, [], ◌∷◌, refl, sym, subst}
use Rattle.fixed_box.specs.declared.shapes.Point.{Point}
use Rattle.fixed_box.specs.declared.shapes.Box3.{Box3}
use Rattle.fixed_box.specs.declared.shapes.Tri.{Tri}
use Rattle.fixed_box.specs.Boxes.{IsLeastHolding, IsLeastBox}
use Rattle.fixed_box.specs.Extent.{point_box, union_of, corner_box, tri_box}
use Rattle.fixed_box.proofs.Order.{IsLesser, IsGreater}
use Rattle.fixed_box.proofs.LeastBoxes.{both, contains_first, contains_second, one_least_box, one_least_holding, least_of_one, least_of_two, least_of_append, least_of_corners, least_of_three}

-- the union of two boxes is their least box
pub union_of-is_least : (a b : Box3) → IsLeastBox (a ∷ b ∷ []) (union_of a b)
unfolding union_of
union_of-is_least a b = least_of_two a b (union_of a b) (record { x = refl; y = refl; z = refl })
    (record { x = refl; y = refl; z = refl })

-- so a least box of two has those coordinates
pub least_is_union_of : (a b c : Box3) → IsLeastBox (a ∷ b ∷ []) c → c ≡ union_of a b
least_is_union_of a b c h = one_least_box (a ∷ b ∷ []) c (union_of a b) h (union_of-is_least a b)

-- boxes join in either order
pub union_of-comm : (a b : Box3) → union_of a b ≡ union_of b a
union_of-comm a b =
    let h = union_of-is_least a b in
    least_is_union_of b a (union_of a b) (record {
      contains = both (union_of a b) b a (contains_second (union_of a b) a b h.contains)
          (contains_first (union_of a b) a b h.contains);
      least = λ c k. h.least c (both c a b (contains_second c b a k) (contains_first c b a k));
    })

-- boxes join in any grouping
pub union_of-assoc : (a b c : Box3) → union_of (union_of a b) c ≡ union_of a (union_of b c)
union_of-assoc a b c =
    one_least_box (a ∷ b ∷ c ∷ []) (union_of (union_of a b) c) (union_of a (union_of b c))
    (least_of_append (a ∷ b ∷ []) (c ∷ []) (union_of a b) c (union_of (union_of a b) c)
    (union_of-is_least a b) (least_of_one c) (union_of-is_least (union_of a b) c))
    (least_of_append (a ∷ []) (b ∷ c ∷ []) a (union_of b c) (union_of a (union_of b c))
    (least_of_one a) (union_of-is_least b c) (union_of-is_least a (union_of b c)))

-- a box joined with itself is that box
pub union_of-same : (a : Box3) → union_of a a ≡ a
union_of-same a = one_least_box (a ∷ a ∷ []) (union_of a a) a (union_of-is_least a a)
    (least_of_append (a ∷ []) (a ∷ []) a a a (least_of_one a) (least_of_one a) (record {
      contains = both a a a (λ p h. h) (λ p h. h);
      least = λ c h. contains_first c a a h;
    }))

-- the least box of two has the lesser first corner and the greater last corner
pub corners_of_least : (a b c : Box3) → IsLeastBox (a ∷ b ∷ []) c → IsLesser a.lo b.lo c.lo × IsGreater a.hi b.hi c.hi
unfolding union_of
corners_of_least a b c h =
    let P : Box3 → Type 0 = λ d. IsLesser a.lo b.lo d.lo × IsGreater a.hi b.hi d.hi in
    subst P (sym (least_is_union_of a b c h))
    (record { x = refl; y = refl; z = refl }, record { x = refl; y = refl; z = refl })

-- the box of two points is the least that holds both
pub corner_box-is_least : (p q : Point) → IsLeastHolding (p ∷ q ∷ []) (corner_box p q)
unfolding corner_box union_of point_box
corner_box-is_least p q = least_of_corners p q (corner_box p q) (record { x = refl; y = refl; z = refl })
    (record { x = refl; y = refl; z = refl })

-- so a least box that holds two points has its coordinates
pub least_is_corner_box : (p q : Point) (b : Box3) → IsLeastHolding (p ∷ q ∷ []) b → b ≡ corner_box p q
least_is_corner_box p q b h = one_least_holding (p ∷ q ∷ []) b (corner_box p q) h (corner_box-is_least p q)

-- the box of a triangle is the least that holds its corners
pub tri_box-is_least : (t : Tri) → IsLeastHolding (t.a ∷ t.b ∷ t.c ∷ []) (tri_box t)
unfolding tri_box corner_box union_of point_box
tri_box-is_least t =
    least_of_three t.a t.b t.c (corner_box t.a t.b).lo (corner_box t.a t.b).hi (tri_box t)
    (record { x = refl; y = refl; z = refl }) (record { x = refl; y = refl; z = refl })
    (record { x = refl; y = refl; z = refl }) (record { x = refl; y = refl; z = refl })

-- so a least box that holds a triangle's corners has its coordinates
pub least_is_tri_box : (t : Tri) (b : Box3) → IsLeastHolding (t.a ∷ t.b ∷ t.c ∷ []) b → b ≡ tri_box t
least_is_tri_box t b h = one_least_holding (t.a ∷ t.b ∷ t.c ∷ []) b (tri_box t) h (tri_box-is_least t)
