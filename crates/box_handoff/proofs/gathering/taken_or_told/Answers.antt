use Rattle.std.proofs.Common.{◌∙◌}
use Rattle.box_handoff.specs.Entries.{given_of}
use Rattle.box_handoff.proofs.ReadLaws.{child_is}
use Rattle.box_handoff.proofs.gathering.taken_or_told.Goals as goal

pub returns-in-None : goal.returns-in-None
returns-in-None c = c.told.ensures ∙ child_is (given_of c.args.about.now) c.args.split c.args.side
