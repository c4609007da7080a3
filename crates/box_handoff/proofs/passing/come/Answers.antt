use Rattle.std.proofs.Common.{ap, ◌∙◌}
use Rattle.box_handoff.specs.Made.{frame_in}
use Rattle.box_handoff.specs.Plays.{mine}
use Rattle.box_handoff.proofs.HandedLaws.{handed_is}
use Rattle.box_handoff.proofs.GrowLaws.{grew_came}
use Rattle.box_handoff.proofs.PassLaws.{was_small, turned_back, found_other}
use Rattle.box_handoff.proofs.passing.come.Goals as goal

pub open-requires-clause-handed : goal.open-requires-clause-handed
open-requires-clause-handed c = handed_is _ c.requires.over.given c.args.load.now c.requires.load c.is_inner-handed.result
    c.is_inner-handed.ensures.yes c.is_inner-handed.ensures.no

pub arrive-requires-clause-handed : goal.arrive-requires-clause-handed
arrive-requires-clause-handed c = handed_is _ c.requires.over.given c.args.load.now c.requires.load c.is_inner-handed.result
    c.is_inner-handed.ensures.yes c.is_inner-handed.ensures.no

pub returns-clause-climbed : goal.returns-clause-climbed
returns-clause-climbed c = record {
  table = c.arrive.ensures.table.0 ∙ c.put.ensures.table.0 ∙ c.open.ensures.table.0;
  id = c.arrive.ensures.table.1 ∙ c.put.ensures.table.1 ∙ c.open.ensures.table.1;
  view = c.arrive.ensures.did.view;
  home = c.arrive.ensures.out;
  grew = grew_came _ c.args.seat.now.me c.open.new.seat.me c.put.new.seat.me c.arrive.new.seat.me c.arrive.result.arrived
      c.open.ensures.did (ap mine c.put.ensures.out) c.arrive.ensures.did;
  small = λ h. c.arrive.ensures.did.small;
}

pub returns-clause-small : goal.returns-clause-small
returns-clause-small c = was_small c.args.load.now c.args.seat.now.me c.open.new.seat.me c.open.ensures.worker
    c.open.ensures.did.small

pub returns-clause-first : goal.returns-clause-first
returns-clause-first c came = turned_back (frame_in c.args.table.now.key) c.args.load.now c.args.seat.now.me
    c.open.new.seat.me c.put.new.seat.me c.arrive.new.seat.me c.open.ensures.worker (ap mine c.put.ensures.out)
    (c.arrive.ensures.first came)

pub returns-clause-second : goal.returns-clause-second
returns-clause-second c came = found_other c.args.load.now c.args.seat.now.me c.open.new.seat.me c.put.new.seat.me
    c.arrive.new.seat.me c.open.ensures.worker (ap mine c.put.ensures.out) (c.arrive.ensures.second came)
