use Rattle.apetrei_build.proofs.ParentLaws.{nearer_is_above}
use Rattle.apetrei_build.proofs.deltas.Deltas.new.Goals as goal

pub returns-in_err-measures-clause-law : goal.returns-in_err-measures-clause-law
returns-in_err-measures-clause-law c = nearer_is_above c.args.keys.now c.requires.lawful

pub returns-clause-law : goal.returns-clause-law
returns-clause-law c = nearer_is_above c.args.keys.now c.requires.lawful
