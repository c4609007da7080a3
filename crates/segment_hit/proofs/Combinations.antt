-- A multiple of one vector as a combination of three others: Cramer's rule, and its converse.
use Rattle.std.proofs.Common.{◌≡◌, ℤ, ◌+ℤ◌, ◌*ℤ◌, neg_ℤ, arith, ◌∙◌}
use Rattle.segment_hit.proofs.Integers.{linear, neg-times, times-neg, times-zero}
use Rattle.segment_hit.proofs.VectorIdentities.{dot-scaled, dot-sum, cross_left, cross_right, turned, swapped, bac_x, bac_y, bac_z, cab_x, cab_y, cab_z}
use Rattle.segment_hit.specs.Vectors.{Vector, dot, cross}

-- T d = D r + v f + w g
pub record Combines (D T v w : ℤ) (r d f g : Vector) : Type 0 where
  pub on_x : T *ℤ d.x ≡ D *ℤ r.x +ℤ v *ℤ f.x +ℤ w *ℤ g.x
  pub on_y : T *ℤ d.y ≡ D *ℤ r.y +ℤ v *ℤ f.y +ℤ w *ℤ g.y
  pub on_z : T *ℤ d.z ≡ D *ℤ r.z +ℤ v *ℤ f.z +ℤ w *ℤ g.z

-- the dot product of both sides with a vector
pub dotted : (D T v w : ℤ) (r d f g k : Vector) → Combines D T v w r d f g
    → T *ℤ dot d k ≡ D *ℤ dot r k +ℤ v *ℤ dot f k +ℤ w *ℤ dot g k
dotted D T v w r d f g k e = dot-scaled T d k ∙ rw (e.on_x, e.on_y, e.on_z) (dot-sum D v w r f g k)

-- Cramer's rule: the determinants are such a combination
pub cramer : (r d f g : Vector)
    → Combines (dot d (cross f g)) (dot r (cross f g)) (dot g (cross r d)) (neg_ℤ (dot f (cross r d))) r d f g
cramer r d f g = record {
  on_x = omega (arith, linear, bac_x (cross f g) r d, cab_x f g (cross r d), neg-times (dot f (cross r d)) g.x);
  on_y = omega (arith, linear, bac_y (cross f g) r d, cab_y f g (cross r d), neg-times (dot f (cross r d)) g.y);
  on_z = omega (arith, linear, bac_z (cross f g) r d, cab_z f g (cross r d), neg-times (dot f (cross r d)) g.z);
}

-- in any such combination, T is to D as the first determinant is to the whole
pub time_is : (D T v w : ℤ) (r d f g : Vector) → Combines D T v w r d f g
    → T *ℤ dot d (cross f g) ≡ D *ℤ dot r (cross f g)
time_is D T v w r d f g h =
    let e = dotted D T v w r d f g (cross f g) h in
    let e' = rw (cross_left f g, cross_right f g) at e in
    omega (arith, linear, e', times-zero v, times-zero w)

-- v is to D as the second determinant is to the whole
pub second_is : (D T v w : ℤ) (r d f g : Vector) → Combines D T v w r d f g
    → v *ℤ dot d (cross f g) ≡ D *ℤ dot g (cross r d)
second_is D T v w r d f g h =
    let e = dotted D T v w r d f g (cross d g) h in
    let e' = rw (cross_left d g, cross_right d g, turned r d g, swapped f d g) at e in
    omega (arith, linear, e', times-zero T, times-zero w, times-neg v (dot d (cross f g)))

-- w is to D as the third determinant is to the whole
pub third_is : (D T v w : ℤ) (r d f g : Vector) → Combines D T v w r d f g
    → w *ℤ dot d (cross f g) ≡ D *ℤ neg_ℤ (dot f (cross r d))
third_is D T v w r d f g h =
    let e = dotted D T v w r d f g (cross d f) h in
    let e' = rw (cross_left d f, cross_right d f, turned r d f, turned g d f, turned f g d) at e in
    omega (arith, linear, e', times-zero T, times-zero v, times-neg D (dot f (cross r d)))
