use Rattle.std.proofs.Common.{refl, length}
use Rattle.arrival_core.specs.Events.{event_in}
use Rattle.arrival_core.proofs.RoomLaws.{event_read, next_below, carry_below, opened_below, second_below, collecting_below, may_step}
use Rattle.arrival_core.proofs.stepping.advance.Goals as goal

pub take-requires-clause-next : goal.take-requires-clause-next
take-requires-clause-next c =
    next_below c.requires.core c.args.k c.requires.worker c.climber_of.ensures c.in-Looking.is

pub take-requires-clause-room : goal.take-requires-clause-room
take-requires-clause-room c = may_step c.requires.core c.args.k c.requires.worker

pub returns-in-Looking-clause-state : goal.returns-in-Looking-clause-state
unfolding event_in
returns-in-Looking-clause-state c = λ workers. event_read _ _ _ _ _ _ _ _ _ c.climber_of.ensures c.in-Looking.is
    (c.take.ensures.state workers c.args.forks.now)

pub open-requires-clause-node : goal.open-requires-clause-node
open-requires-clause-node c =
    carry_below c.requires.core c.args.k c.requires.worker c.climber_of.ensures c.in-Carry.l c.in-Carry.is

pub open-requires-clause-room : goal.open-requires-clause-room
open-requires-clause-room c = may_step c.requires.core c.args.k c.requires.worker

pub returns-in-Carry-clause-state : goal.returns-in-Carry-clause-state
unfolding event_in
returns-in-Carry-clause-state c = λ workers. event_read _ _ _ _ _ _ _ _ _ c.climber_of.ensures c.in-Carry.is
    (c.open.ensures.state c.args.g.now.live.now c.args.claimed.now)

pub returns-in-Carry-clause-parts : goal.returns-in-Carry-clause-parts
returns-in-Carry-clause-parts c = λ j. c.open.ensures.parts (length c.args.g.now.live.now) j (c.requires.core.parts j)

pub arrive-requires-clause-node : goal.arrive-requires-clause-node
arrive-requires-clause-node c =
    opened_below c.requires.core c.args.k c.requires.worker c.climber_of.ensures c.in-Opened.l c.in-Opened.is

pub arrive-requires-clause-room : goal.arrive-requires-clause-room
arrive-requires-clause-room c = may_step c.requires.core c.args.k c.requires.worker

pub returns-in-Opened-clause-state : goal.returns-in-Opened-clause-state
unfolding event_in
returns-in-Opened-clause-state c = λ workers. event_read _ _ _ _ _ _ _ _ _ c.climber_of.ensures c.in-Opened.is
    (c.arrive.ensures.state workers c.args.claimed.now)

pub collect-requires-clause-node : goal.collect-requires-clause-node
collect-requires-clause-node c =
    second_below c.requires.core c.args.k c.requires.worker c.climber_of.ensures c.in-Second.l c.in-Second.is

pub collect-requires-clause-room : goal.collect-requires-clause-room
collect-requires-clause-room c = may_step c.requires.core c.args.k c.requires.worker

pub returns-in-Second-clause-state : goal.returns-in-Second-clause-state
unfolding event_in
returns-in-Second-clause-state c = λ workers. event_read _ _ _ _ _ _ _ _ _ c.climber_of.ensures c.in-Second.is
    (c.collect.ensures.state c.args.g.now.live.now c.args.claimed.now)

pub returns-in-Second-clause-parts : goal.returns-in-Second-clause-parts
returns-in-Second-clause-parts c = λ j. c.collect.ensures.parts (length c.args.g.now.live.now) j
    (c.requires.core.parts j)

pub leave-requires-clause-node : goal.leave-requires-clause-node
leave-requires-clause-node c =
    collecting_below c.requires.core c.args.k c.requires.worker c.climber_of.ensures c.in-Collecting.l
    c.in-Collecting.found c.in-Collecting.is

pub leave-requires-clause-room : goal.leave-requires-clause-room
leave-requires-clause-room c = may_step c.requires.core c.args.k c.requires.worker

pub returns-in-Collecting-clause-state : goal.returns-in-Collecting-clause-state
unfolding event_in
returns-in-Collecting-clause-state c = λ workers. event_read _ _ _ _ _ _ _ _ _ c.climber_of.ensures c.in-Collecting.is
    (c.leave.ensures.state workers c.args.claimed.now)

pub returns-in-Ended-clause-state : goal.returns-in-Ended-clause-state
unfolding event_in
returns-in-Ended-clause-state c = λ workers. event_read _ _ _ _ _ _ _ _ _ c.climber_of.ensures c.in-Ended.is refl
