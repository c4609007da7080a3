-- Identities of dot and cross products, each a polynomial identity of the coordinates.
use Rattle.std.proofs.Common.{◌≡◌, ℤ, pos, ◌+ℤ◌, ◌-ℤ◌, ◌*ℤ◌, neg_ℤ, arith, refl}
use Rattle.segment_hit.proofs.Integers.{diff, parts, same_diff, to_diff, zero-diff}
use borrow.Author.Differences.{up, down}
use Rattle.segment_hit.specs.Vectors.{Vector, dot, cross}

-- a vector as differences of naturals
vector_parts : (v : Vector) →
    record { x = diff (up v.x) (down v.x); y = diff (up v.y) (down v.y); z = diff (up v.z) (down v.z) } ≡ v
vector_parts v = rw (parts v.x, parts v.y, parts v.z) refl

-- a multiple of a dot product, on each axis
pub dot-scaled : (T : ℤ) (d k : Vector) → T *ℤ dot d k ≡ (T *ℤ d.x) *ℤ k.x +ℤ (T *ℤ d.y) *ℤ k.y +ℤ (T *ℤ d.z) *ℤ k.z
dot-scaled T d k = rw (← parts T, ← vector_parts d, ← vector_parts k)
    (simp to_diff (same_diff _ _ _ _ (omega arith)))

-- the dot product of a combination of three vectors
pub dot-sum : (D v w : ℤ) (r f g k : Vector) →
    (D *ℤ r.x +ℤ v *ℤ f.x +ℤ w *ℤ g.x) *ℤ k.x +ℤ (D *ℤ r.y +ℤ v *ℤ f.y +ℤ w *ℤ g.y) *ℤ k.y +ℤ
    (D *ℤ r.z +ℤ v *ℤ f.z +ℤ w *ℤ g.z) *ℤ k.z
    ≡ D *ℤ dot r k +ℤ v *ℤ dot f k +ℤ w *ℤ dot g k
dot-sum D v w r f g k =
    rw (← parts D, ← parts v, ← parts w, ← vector_parts r, ← vector_parts f, ← vector_parts g, ← vector_parts k)
    (simp to_diff (same_diff _ _ _ _ (omega arith)))

-- a cross product is orthogonal to its first factor
pub cross_left : (f g : Vector) → dot f (cross f g) ≡ pos 0
cross_left f g = rw zero-diff (rw (← vector_parts f, ← vector_parts g)
    (simp to_diff (same_diff _ _ _ _ (omega arith))))

-- and to its second
pub cross_right : (f g : Vector) → dot g (cross f g) ≡ pos 0
cross_right f g = rw zero-diff (rw (← vector_parts f, ← vector_parts g)
    (simp to_diff (same_diff _ _ _ _ (omega arith))))

-- a . (b x c) = c . (a x b)
pub turned : (a b c : Vector) → dot a (cross b c) ≡ dot c (cross a b)
turned a b c =
    rw (← vector_parts a, ← vector_parts b, ← vector_parts c)
    (simp to_diff (same_diff _ _ _ _ (omega arith)))

-- a . (b x c) = -(b . (a x c))
pub swapped : (a b c : Vector) → dot a (cross b c) ≡ neg_ℤ (dot b (cross a c))
swapped a b c =
    rw (← vector_parts a, ← vector_parts b, ← vector_parts c)
    (simp to_diff (same_diff _ _ _ _ (omega arith)))

-- a vector with its axes moved on by one
abbrev moved : Vector → Vector
moved v = record { x = v.y; y = v.z; z = v.x }

-- a dot product does not tell the axes apart
moved_dot : (d k : Vector) → dot (moved d) (moved k) ≡ dot d k
moved_dot d k = rw (← vector_parts d, ← vector_parts k) (simp to_diff (same_diff _ _ _ _ (omega arith)))

-- n x (r x d) on the axis x
pub bac_x : (n r d : Vector) → (cross n (cross r d)).x ≡ dot d n *ℤ r.x -ℤ dot r n *ℤ d.x
bac_x n r d =
    rw (← vector_parts n, ← vector_parts r, ← vector_parts d)
    (simp to_diff (same_diff _ _ _ _ (omega arith)))

-- on the axis y
pub bac_y : (n r d : Vector) → (cross n (cross r d)).y ≡ dot d n *ℤ r.y -ℤ dot r n *ℤ d.y
bac_y n r d = rw (← moved_dot d n, ← moved_dot r n) (bac_x (moved n) (moved r) (moved d))

-- and on the axis z
pub bac_z : (n r d : Vector) → (cross n (cross r d)).z ≡ dot d n *ℤ r.z -ℤ dot r n *ℤ d.z
bac_z n r d = rw (← moved_dot d n, ← moved_dot r n) (bac_y (moved n) (moved r) (moved d))

-- (f x g) x m on the axis x
pub cab_x : (f g m : Vector) → (cross (cross f g) m).x ≡ dot f m *ℤ g.x -ℤ dot g m *ℤ f.x
cab_x f g m =
    rw (← vector_parts f, ← vector_parts g, ← vector_parts m)
    (simp to_diff (same_diff _ _ _ _ (omega arith)))

-- on the axis y
pub cab_y : (f g m : Vector) → (cross (cross f g) m).y ≡ dot f m *ℤ g.y -ℤ dot g m *ℤ f.y
cab_y f g m = rw (← moved_dot f m, ← moved_dot g m) (cab_x (moved f) (moved g) (moved m))

-- and on the axis z
pub cab_z : (f g m : Vector) → (cross (cross f g) m).z ≡ dot f m *ℤ g.z -ℤ dot g m *ℤ f.z
cab_z f g m = rw (← moved_dot f m, ← moved_dot g m) (cab_y (moved f) (moved g) (moved m))
