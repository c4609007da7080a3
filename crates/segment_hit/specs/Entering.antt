-- Where a segment is in a closed box, and the first place at which it is. It speaks of points alone.
use Rattle.std.specs.Prelude.{ℤ, pos, ◌+ℤ◌, ◌-ℤ◌, ◌*ℤ◌, ◌≤ℤ◌, ◌<ℤ◌}
use Rattle.fixed_box.specs.declared.shapes.Point.{Point}
use Rattle.fixed_box.specs.declared.shapes.Box3.{Box3}
use Rattle.fixed_box.specs.Boxes.{IsBetween}

-- T/D of the way from one coordinate to another is from lo to hi, both included
abbrev pub IsBetweenAt : (from to lo hi T D : ℤ) → Type 0
IsBetweenAt from to lo hi T D = IsBetween (D *ℤ lo) (D *ℤ from +ℤ T *ℤ (to -ℤ from)) (D *ℤ hi)

-- T/D of the way from p to q the segment is in the box
pub record IsIn (p q : Point) (b : Box3) (T D : ℤ) : Type 0 where
  pub positive : pos 0 <ℤ D
  pub begun : pos 0 ≤ℤ T
  pub ended : T ≤ℤ D
  pub on_x : IsBetweenAt p.x q.x b.lo.x b.hi.x T D
  pub on_y : IsBetweenAt p.y q.y b.lo.y b.hi.y T D
  pub on_z : IsBetweenAt p.z q.z b.lo.z b.hi.z T D

-- N/M of the way the segment is in the box, and it is so at no lesser fraction of the way
pub record IsEntry (p q : Point) (b : Box3) (N M : ℤ) : Type 0 where
  pub inside : IsIn p q b N M
  pub least : (T D : ℤ) → IsIn p q b T D → (N *ℤ D) ≤ℤ (T *ℤ M)
