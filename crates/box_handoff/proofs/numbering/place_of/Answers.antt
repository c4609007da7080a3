use Rattle.std.proofs.Common.{arith, ap, ◌∙◌, sym, subst, ◌<◌, length, List, ℕ}
use Rattle.std.specs.Prelude.{AllPairs}
use Rattle.box_handoff.specs.Entries.{given_of, spots_of, place_in}
use Rattle.box_handoff.proofs.FrameOf.{nodes_low}
use Rattle.box_handoff.proofs.NumberLaws.{place_is, number_none, number_some, rising_some, there_some, count_low}
use Rattle.box_handoff.proofs.numbering.place_of.Goals as goal

pub find-requires-clause-rising : goal.find-requires-clause-rising
find-requires-clause-rising c = subst (AllPairs (λ p q. p < q)) (sym c.as_slice.ensures.value)
    (rising_some _ c.requires.given _ (ap spots_of c.in-Some.is))

pub find-requires-clause-there : goal.find-requires-clause-there
find-requires-clause-there c = subst (λ (l : List ℕ). place_in l c.args.split < length l) (sym c.as_slice.ensures.value)
    (there_some _ c.requires.given _ (ap spots_of c.in-Some.is) c.args.split c.requires.seen)

pub returns-in-None-clause-place : goal.returns-in-None-clause-place
returns-in-None-clause-place c = place_is _ c.requires.given c.args.split _ c.requires.seen
    (number_none (given_of c.args.about.now) c.requires.given c.args.split (ap spots_of c.in-None.is))

pub returns-in-None-clause-small : goal.returns-in-None-clause-small
returns-in-None-clause-small c =
    let n = nodes_low _ c.requires.given in
    let s = c.requires.seen.0 in omega (arith, n, s)

pub returns-in-Some-clause-place : goal.returns-in-Some-clause-place
returns-in-Some-clause-place c = place_is _ c.requires.given c.args.split _ c.requires.seen
    (c.find.ensures ∙ ap (λ (l : List ℕ). place_in l c.args.split) c.as_slice.ensures.value
    ∙ number_some (given_of c.args.about.now) c.requires.given _ (ap spots_of c.in-Some.is) c.args.split)

pub returns-in-Some-clause-small : goal.returns-in-Some-clause-small
returns-in-Some-clause-small c =
    let n = nodes_low _ c.requires.given in
    let k = count_low _ c.requires.given in
    let w = (returns-in-Some-clause-place c).within in omega (arith, n, k, w)
