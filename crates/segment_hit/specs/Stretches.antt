-- Which fractions of the way a stretch covers. No public clause cites this module.
use Rattle.std.specs.Prelude.{◌≡◌, ℤ, pos, ◌*ℤ◌, ◌≤ℤ◌, ◌<ℤ◌, ◌↔◌, Option, IsSomeAnd}
use Rattle.segment_hit.specs.declared.stretch.Entry.{Entry}
use Rattle.segment_hit.specs.declared.stretch.Stretch.{Stretch}

-- T/D is N/M or more
abbrev pub IsFrom : (N M T D : ℤ) → Type 0
IsFrom N M T D = (N *ℤ D) ≤ℤ (T *ℤ M)

-- T/D is N/M or less
abbrev pub IsUpTo : (N M T D : ℤ) → Type 0
IsUpTo N M T D = (T *ℤ M) ≤ℤ (N *ℤ D)

-- T/D is from low/way to high/way, both included
pub record IsOnWay (low high way T D : ℤ) : Type 0 where
  pub begun : IsFrom low way T D
  pub ended : IsUpTo high way T D

-- T/D is from the one end of the stretch to the other, both included
pub record Covers (s : Stretch) (T D : ℤ) : Type 0 where
  pub entered : IsFrom s.enter.num s.enter.den T D
  pub left : IsUpTo s.leave.num s.leave.den T D

-- T/D is from 0 to 1
pub record IsPart (T D : ℤ) : Type 0 where
  pub positive : pos 0 <ℤ D
  pub begun : pos 0 ≤ℤ T
  pub ended : T ≤ℤ D

-- of the way, the stretch covers just those fractions of which P holds; no stretch, none
abbrev pub IsStretchOf : (ℤ → ℤ → Type 0) → Option Stretch → Type 0
IsStretchOf P o = (T D : ℤ) → IsPart T D → (IsSomeAnd o (λ s. Covers s T D) ↔ P T D)

-- what is c or more is both a or more and b or more
abbrev pub IsLaterOf : Entry → Entry → Entry → Type 0
IsLaterOf a b c =
    (T D : ℤ) → IsPart T D → (IsFrom c.num c.den T D ↔ (IsFrom a.num a.den T D × IsFrom b.num b.den T D))

-- what is c or less is both a or less and b or less
abbrev pub IsSoonerOf : Entry → Entry → Entry → Type 0
IsSoonerOf a b c =
    (T D : ℤ) → IsPart T D → (IsUpTo c.num c.den T D ↔ (IsUpTo a.num a.den T D × IsUpTo b.num b.den T D))

-- c covers just what both a and b cover
abbrev pub IsSharedBy : Stretch → Stretch → Stretch → Type 0
IsSharedBy a b c = (T D : ℤ) → IsPart T D → (Covers c T D ↔ (Covers a T D × Covers b T D))

-- the stretch is the whole way, from 0/1 to 1/1
pub record IsWholeWay (s : Stretch) : Type 0 where
  pub enter_num : s.enter.num ≡ pos 0
  pub enter_den : s.enter.den ≡ pos 1
  pub leave_num : s.leave.num ≡ pos 1
  pub leave_den : s.leave.den ≡ pos 1
