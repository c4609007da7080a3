-- Where a segment meets a triangle, as a linear relation on points.
use Rattle.std.specs.Prelude.{◌≡◌, ◌≢◌, ℤ, pos, ◌+ℤ◌, ◌-ℤ◌, ◌*ℤ◌, ◌≤ℤ◌, ◌<ℤ◌}
use Rattle.fixed_box.specs.declared.shapes.Point.{Point}
use Rattle.fixed_box.specs.declared.shapes.Tri.{Tri}
use Rattle.segment_hit.specs.Vectors.{from_to, dot, normal}
use Rattle.segment_hit.specs.declared.fraction.Frac.{Frac}

-- the corners with the weights u, v and w, of D together, balance at the point that lies T/D of the way from p to q
pub record Weighs (p q : Point) (t : Tri) (T D u v w : ℤ) : Type 0 where
  pub first : pos 0 ≤ℤ u
  pub second : pos 0 ≤ℤ v
  pub third : pos 0 ≤ℤ w
  pub whole : u +ℤ v +ℤ w ≡ D
  pub on_x : D *ℤ p.x +ℤ T *ℤ (q.x -ℤ p.x) ≡ u *ℤ t.a.x +ℤ v *ℤ t.b.x +ℤ w *ℤ t.c.x
  pub on_y : D *ℤ p.y +ℤ T *ℤ (q.y -ℤ p.y) ≡ u *ℤ t.a.y +ℤ v *ℤ t.b.y +ℤ w *ℤ t.c.y
  pub on_z : D *ℤ p.z +ℤ T *ℤ (q.z -ℤ p.z) ≡ u *ℤ t.a.z +ℤ v *ℤ t.b.z +ℤ w *ℤ t.c.z

-- the segment from p to q is not parallel to the triangle's plane, and T/D of the way it is at a point of the triangle
pub record MeetsAt (p q : Point) (t : Tri) (T D : ℤ) : Type 0 where
  pub crosses : dot (from_to p q) (normal t) ≢ pos 0
  pub positive : pos 0 <ℤ D
  pub begun : pos 0 ≤ℤ T
  pub ended : T ≤ℤ D
  pub weights : (u : ℤ) × (v : ℤ) × (w : ℤ) × Weighs p q t T D u v w

-- f is T/D
abbrev pub IsFraction : Frac → ℤ → ℤ → Type 0
IsFraction f T D = f.num *ℤ D ≡ T *ℤ f.den

-- f is a fraction of the way at which the segment meets the triangle
abbrev pub IsHit : Point → Point → Tri → Frac → Type 0
IsHit p q t f = (T : ℤ) × (D : ℤ) × MeetsAt p q t T D × IsFraction f T D
