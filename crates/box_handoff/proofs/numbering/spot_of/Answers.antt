use Rattle.std.proofs.Common.{arith, ap, ◌∙◌, List, ℕ}
use Rattle.std.specs.Prelude.{slice_index}
use Rattle.std.proofs.lemmas.List.{get_or_default}
use Rattle.box_handoff.specs.Entries.{given_of, spots_of}
use Rattle.box_handoff.proofs.FrameOf.{nodes_low}
use Rattle.box_handoff.proofs.NumberLaws.{spot_none, spots_are, count_some, count_low}
use Rattle.box_handoff.proofs.numbering.spot_of.Goals as goal

pub overflow_cast-result : goal.overflow_cast-result
overflow_cast-result c =
    let n = nodes_low _ c.requires.given in
    let k = count_low _ c.requires.given in
    omega (arith, n, k, c.requires.within)

pub returns-in-None : goal.returns-in-None
returns-in-None c = spot_none _ c.requires.given (ap spots_of c.in-None.is) c.args.place c.requires.within

pub index-requires : goal.index-requires
index-requires c =
    let k = count_some (given_of c.args.about.now) c.requires.given _ (ap spots_of c.in-Some.is) in
    omega (arith, k, c.requires.within, c.in-Some.spots.splits.ok)

pub returns-in-Some : goal.returns-in-Some
returns-in-Some c =
    let k = count_some (given_of c.args.about.now) c.requires.given _ (ap spots_of c.in-Some.is) in
    c.index.ensures
    ∙ get_or_default c.in-Some.spots.splits.items c.args.place c.index.result.now 0 (omega (arith, k, c.requires.within))
    ∙ ap (λ (l : List ℕ). slice_index l c.args.place)
    (spots_are (given_of c.args.about.now) c.requires.given _ (ap spots_of c.in-Some.is))
