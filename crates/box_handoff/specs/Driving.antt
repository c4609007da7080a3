-- What the threads that climb find and leave. No public clause cites this module.
use Rattle.std.specs.Prelude.{ℕ, ◌≡◌, ◌<◌, true, false, List, length, slice_index_or}
use Rattle.box_handoff.specs.declared.seats.HandSeat.{HandSeat}
use Rattle.box_handoff.specs.declared.handoffs.Handoff.{Handoff}
use Rattle.box_handoff.specs.Seats.{IsSeatOf}

-- a seat that may climb
pub record IsReady (h : Handoff) (s : HandSeat) : Type 0 where
  pub own : IsSeatOf h s
  pub unbegun : s.ended ≡ false

-- one that has climbed, with the number that it had
pub record Climbs (h : Handoff) (old new : HandSeat) : Type 0 where
  pub own : IsSeatOf h new
  pub ended : new.ended ≡ true
  pub number : new.number ≡ old.number

-- each seat has climbed
abbrev pub WereDone : Handoff → List HandSeat → List HandSeat → Type 0
WereDone h old new = (i : ℕ) (s : HandSeat) → i < length old →
    Climbs h (slice_index_or old i s) (slice_index_or new i s)
