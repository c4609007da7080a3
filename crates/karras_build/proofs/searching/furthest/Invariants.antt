use Rattle.std.proofs.Common.{◌-◌, ◌<◌, ◌≤◌, ◌^◌, length}
use Rattle.karras_build.specs.Reaching.{Reaches}
use Rattle.karras_build.proofs.searching.furthest.Given as goal

abbrev pub invariant-doubling : goal.invariant-doubling
invariant-doubling l = (0 < l.near) × (l.near < l.far) × (l.far ≤ 2 ^ 21) × Reaches l.keys l.at l.way l.near l.floor

abbrev pub decreases-doubling : goal.decreases-doubling
decreases-doubling l = length l.keys - l.far

abbrev pub invariant-halving : goal.invariant-halving
invariant-halving l = (0 < l.near) × (l.near < l.far) × (l.far ≤ 2 ^ 21) × Reaches l.keys l.at l.way l.near l.floor
    × (Reaches l.keys l.at l.way l.far l.floor → ⊥)

abbrev pub decreases-halving : goal.decreases-halving
decreases-halving l = l.far - l.near
