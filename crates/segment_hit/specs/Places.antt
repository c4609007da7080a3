-- The later and the sooner of two places on the way of a line. No public clause cites this module.
use Rattle.std.specs.Prelude.{ℤ, pos, ◌<ℤ◌, ◌↔◌}
use Rattle.segment_hit.specs.declared.line.Place.{Place}
use Rattle.segment_hit.specs.Stretches.{IsFrom, IsUpTo, IsPart}

-- what is c or more is both a or more and b or more
abbrev pub IsLaterPlace : Place → Place → Place → Type 0
IsLaterPlace a b c =
    (whole T E : ℤ) → IsPart T E → (IsFrom c.at whole T E ↔ (IsFrom a.at whole T E × IsFrom b.at whole T E))

-- what is c or less is both a or less and b or less
abbrev pub IsSoonerPlace : Place → Place → Place → Type 0
IsSoonerPlace a b c =
    (whole T E : ℤ) → IsPart T E → (IsUpTo c.at whole T E ↔ (IsUpTo a.at whole T E × IsUpTo b.at whole T E))
