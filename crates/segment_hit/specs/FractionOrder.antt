-- The order of fractions, by cross products.
use Rattle.std.specs.Prelude.{◌*ℤ◌, ◌≤ℤ◌, ◌<ℤ◌}
use Rattle.std.specs.declared.cmp.Ordering.{Ordering}
use Rattle.std.specs.Ordering.{int_cmp}
use Rattle.segment_hit.specs.declared.fraction.Frac.{Frac}
use Rattle.segment_hit.specs.declared.stretch.Entry.{Entry}

-- how a compares to b: a.num/a.den to b.num/b.den, as a.num * b.den to b.num * a.den
abbrev pub frac_cmp : Frac → Frac → Ordering
frac_cmp a b = int_cmp (a.num *ℤ b.den) (b.num *ℤ a.den)

-- a is at most b
abbrev pub IsAtMost : Frac → Frac → Type 0
IsAtMost a b = (a.num *ℤ b.den) ≤ℤ (b.num *ℤ a.den)

-- a is below b
abbrev pub IsBelow : Frac → Frac → Type 0
IsBelow a b = (a.num *ℤ b.den) <ℤ (b.num *ℤ a.den)

-- the entry a is below the entry b
abbrev pub IsBefore : Entry → Entry → Type 0
IsBefore a b = (a.num *ℤ b.den) <ℤ (b.num *ℤ a.den)

-- the fraction f is below the entry e
abbrev pub IsBehind : Entry → Frac → Type 0
IsBehind e f = (f.num *ℤ e.den) <ℤ (e.num *ℤ f.den)
