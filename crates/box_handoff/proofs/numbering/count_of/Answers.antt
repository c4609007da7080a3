use Rattle.std.proofs.Common.{arith, ap}
use Rattle.box_handoff.specs.Entries.{given_of, spots_of}
use Rattle.box_handoff.proofs.NumberLaws.{count_none, count_some}
use Rattle.box_handoff.proofs.LeafLaws.{nodes_are}
use Rattle.box_handoff.proofs.numbering.count_of.Goals as goal

pub returns-in-None : goal.returns-in-None
returns-in-None c =
    let n = nodes_are (given_of c.args.about.now) in
    let k = count_none (given_of c.args.about.now) c.requires (ap spots_of c.in-None.is) in omega (arith, n, k)

pub returns-in-Some : goal.returns-in-Some
returns-in-Some c =
    let k = count_some (given_of c.args.about.now) c.requires _ (ap spots_of c.in-Some.is) in
    omega (arith, c.len.ensures, k)

pub overflow_sub-result : goal.overflow_sub-result
overflow_sub-result c = omega (arith, c.requires.task.two)
