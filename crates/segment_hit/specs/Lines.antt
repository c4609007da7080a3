-- A segment over one denominator: where it comes to the sides of a box, as whole numbers over it.
use Rattle.std.specs.Prelude.{◌≡◌, ℤ, pos, ◌+ℤ◌, ◌-ℤ◌, ◌*ℤ◌, ◌<ℤ◌, ◌≤ℤ◌, ◌⊎◌, ◌↔◌, if◌then◌else◌}
use Rattle.fixed_box.specs.declared.shapes.Point.{Point}
use Rattle.fixed_box.specs.declared.shapes.Box3.{Box3}
use Rattle.segment_hit.specs.declared.line.Axis.{Axis}
use Rattle.segment_hit.specs.declared.line.Line.{Line}
use Rattle.segment_hit.specs.declared.line.Passage.{Passage}
use Rattle.segment_hit.specs.Entering.{IsBetweenAt, IsIn}
use Rattle.segment_hit.specs.Stretches.{IsOnWay, IsPart}

-- how long the way is on one axis; 1 where there is none
abbrev pub IsWay : ℤ → ℤ → ℤ → Type 0
IsWay from to way =
    ((from <ℤ to) × (way ≡ to -ℤ from)) ⊎ (((to <ℤ from) × (way ≡ from -ℤ to)) ⊎ ((from ≡ to) × (way ≡ pos 1)))

-- where the axis comes to the nearer side, and to the farther one
unfoldable pub entry_of : Axis → ℤ → ℤ → ℤ
entry_of a lo hi = (if a.rises then lo -ℤ a.from else a.from -ℤ hi) *ℤ a.scale

unfoldable pub exit_of : Axis → ℤ → ℤ → ℤ
exit_of a lo hi = (if a.rises then hi -ℤ a.from else a.from -ℤ lo) *ℤ a.scale +ℤ a.slack

-- the axis says of each two sides at which parts of the way from one coordinate to another it is between them
abbrev pub IsAxisOf : ℤ → ℤ → ℤ → Axis → Type 0
IsAxisOf from to whole a = (lo hi T E : ℤ) → IsPart T E →
    (IsOnWay (entry_of a lo hi) (exit_of a lo hi) whole T E ↔ IsBetweenAt from to lo hi T E)

-- each axis is that of the segment from p to q
pub record IsLineOf (p q : Point) (l : Line) : Type 0 where
  pub on_x : IsAxisOf p.x q.x l.whole l.x
  pub on_y : IsAxisOf p.y q.y l.whole l.y
  pub on_z : IsAxisOf p.z q.z l.whole l.z

-- a part of the way is between the entry and the exit, both included, just where the segment from p to q is in the box
abbrev pub IsPassageOf : Point → Point → Box3 → ℤ → Passage → Type 0
IsPassageOf p q b whole g = (T E : ℤ) → IsPart T E → (IsOnWay g.enter.at g.leave.at whole T E ↔ IsIn p q b T E)
