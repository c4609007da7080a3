use Rattle.std.proofs.Common.{rules, pos, ◌≤ℤ◌, arith, w64, FitsSigned}
use Rattle.std.proofs.lemmas.Int.{ints}
use Rattle.segment_hit.proofs.Signs.{unchanged}
use Rattle.segment_hit.proofs.Entries.{same_entry}
use Rattle.segment_hit.proofs.entering.enters.Goals as goal

pub returns-in_err-first-clause-only : goal.returns-in_err-first-clause-only
returns-in_err-first-clause-only c T D h =
    let e = c.in_err-first.ensures.only T D h in
    absurd (let k : ⊥ = cc in k)

pub returns-clause-found : goal.returns-clause-found
returns-clause-found c =
    let e = c.in_ok-first.first in
    let num : FitsSigned w64 e.num = search rules in
    let den : FitsSigned w64 e.den = search rules in
    let above : pos 0 ≤ℤ e.den = omega (arith, ints) in
    same_entry c.args.p c.args.q c.args.b.now e.num e.den c.lowest.result.num c.lowest.result.den
    c.lowest.result.above (rw (unchanged e.num num e.begun, unchanged e.den den above) at c.lowest.ensures)
    c.in_ok-first.ensures.found
