use Rattle.std.proofs.Common.{ap, ◌∙◌}
use Rattle.arrival_core.specs.Frames.{other, packet_at}
use Rattle.box_handoff.specs.Made.{frame_in}
use Rattle.box_handoff.specs.Slots.{packed}
use Rattle.box_handoff.specs.Rule.{slot}
use Rattle.box_handoff.specs.Plays.{mine, lent}
use Rattle.box_handoff.proofs.GrowLaws.{grew_left}
use Rattle.box_handoff.proofs.PassLaws.{holds_both, still_out, left_with}
use Rattle.box_handoff.proofs.passing.take_other.Goals as goal

pub found_there-found-requires-clause-out : goal.found_there-found-requires-clause-out
found_there-found-requires-clause-out c = c.collect.ensures.out ∙ ap (lent c.args.handed
    (slot c.args.place (other c.args.load.now.side)) (packed (other c.args.load.now.side)
    (packet_at (frame_in c.args.table.now.key) c.args.load.now.split (other c.args.load.now.side)))) c.requires.home

pub leave-requires-clause-phase : goal.leave-requires-clause-phase
leave-requires-clause-phase c = holds_both c.args.load.now _ _ c.args.seat.now.me c.collect.new.seat.me
    c.found_there-found.new.seat.me c.collect.ensures.worker c.found_there-found.ensures.same
    c.found_there-found.ensures.found

pub leave-requires-clause-out : goal.leave-requires-clause-out
leave-requires-clause-out c = still_out c.args.handed (other c.args.load.now.side) _ _ _ c.args.seat.now.me c.collect.new.seat.me
    c.found_there-found.new.seat.me c.collect.ensures.out c.requires.home c.found_there-found.ensures.same
    c.found_there-found.ensures.found

pub returns-clause-climbed : goal.returns-clause-climbed
returns-clause-climbed c = record {
  table = c.leave.ensures.table.0 ∙ c.found_there-found.ensures.table.0 ∙ c.collect.ensures.table.0;
  id = c.leave.ensures.table.1 ∙ c.found_there-found.ensures.table.1 ∙ c.collect.ensures.table.1;
  view = c.leave.ensures.did.view;
  home = c.leave.ensures.out;
  grew = grew_left _ c.args.seat.now.me c.collect.new.seat.me c.found_there-found.new.seat.me c.leave.new.seat.me
      c.collect.ensures.did (ap mine c.found_there-found.ensures.same) c.leave.ensures.did;
  small = λ h. c.leave.ensures.did.small;
}

pub returns-clause-worker : goal.returns-clause-worker
returns-clause-worker c = left_with (frame_in c.args.table.now.key) c.args.load.now _ _ c.args.seat.now.me
    c.collect.new.seat.me c.found_there-found.new.seat.me c.leave.new.seat.me c.collect.ensures.worker
    (ap mine c.found_there-found.ensures.same) c.leave.ensures.worker
