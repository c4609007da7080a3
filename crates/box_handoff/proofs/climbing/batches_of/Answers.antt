use Rattle.std.proofs.Common.{arith}
use Rattle.box_handoff.specs.Entries.{given_of}
use Rattle.box_handoff.proofs.BatchLaws.{batches_are}
use Rattle.box_handoff.proofs.climbing.batches_of.Goals as goal

pub returns-clause-value : goal.returns-clause-value
returns-clause-value c = let b = batches_are (given_of c.args.about.now) in
    omega (arith, b, c.len.ensures, c.args.about.now.live.ok)
