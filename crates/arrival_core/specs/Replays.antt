-- Schedules: lists of worker numbers, each one event of that worker or nothing where it has ended.
-- Public contracts cite them.
use Rattle.std.specs.Prelude.{ℕ, ◌+◌, List, [], ◌∷◌}
use Rattle.arrival_core.specs.Sums.{bit}
use Rattle.arrival_core.specs.Frames.{Frame}
use Rattle.arrival_core.specs.States.{State}
use Rattle.arrival_core.specs.Events.{event, has_event}
use Rattle.arrival_core.specs.Counts.{second_at}

-- the state after a schedule
unfoldable pub state_after : Frame → List ℕ → State → State
state_after f [] s = s
state_after f (k ∷ ks) s = state_after f ks (event f k s)

-- how many of its numbers are an event
unfoldable pub event_count : Frame → List ℕ → State → ℕ
event_count f [] s = 0
event_count f (k ∷ ks) s = bit (has_event (s.worker k).phase) + event_count f ks (event f k s)

-- how often it collects at a node: the events of workers that came second there
unfoldable pub collect_count : Frame → List ℕ → ℕ → State → ℕ
collect_count f [] t s = 0
collect_count f (k ∷ ks) t s = second_at (s.worker k).phase t + collect_count f ks t (event f k s)
