use Rattle.std.proofs.Common.{rules, arith, sym, subst, Bool}
use Rattle.box_handoff.specs.declared.views.Event.TheVariants.{Take}
use Rattle.box_handoff.specs.Entries.{given_of}
use Rattle.box_handoff.specs.Climbs.{Did}
use Rattle.box_handoff.proofs.Dids.{did, moved_so}
use Rattle.box_handoff.proofs.steps.take.Goals as goal
use Rattle.box_handoff.proofs.TakeLaws.{taking}

pub fetch_or-requires : goal.fetch_or-requires
fetch_or-requires c = (
  search rules,
  omega arith,
  taking _ _ _ c.requires.one _ c.requires.phase c.requires.batch
      c.requires.within _ _ c.mask.ensures,
)

pub returns-clause-did : goal.returns-clause-did
returns-clause-did c = subst (λ (b : Bool). Did (given_of c.args.table.now.key.value) c.args.seat.now.me
    c.fetch_or.new.seat.me (Take b)) (sym c.is_set.ensures)
    (did _ _ _ _ _ _ c.requires.one c.fetch_or.ensures.2.0 c.fetch_or.ensures.2.1 c.requires.phase tt)

pub returns-clause-worker : goal.returns-clause-worker
returns-clause-worker c = moved_so _ _ _ _ _ (returns-clause-did c) c.requires.phase
