-- The exact counts of a fitting run.
use Rattle.std.specs.Prelude.{ℕ, ◌≡◌, ◌<◌, ◌≤◌, ◌+◌, ◌-◌, ◌*◌, ◌/◌}
use Rattle.arrival_core.specs.declared.packets.TheConstants.{BATCH}
use Rattle.arrival_core.specs.declared.packets.Tally.{Tally}
use Rattle.arrival_core.specs.Settings.{Setting, batch_count, frame_of}
use Rattle.arrival_core.specs.Complete.{live_nodes, live_children}

-- each live inner node is fitted once; a step is a take of one worker, an opening or an arrival of a live child, or a
-- collecting or a leaving of a live inner node
pub record IsLiveCounted (x : Setting) (t : Tally) : Type 0 where
  pub fits : t.fits ≡ live_nodes (frame_of x)
  pub steps : t.steps ≡ x.workers * batch_count x.live + 2 * live_children (frame_of x) + 2 * live_nodes (frame_of x)

-- where all leaves are live: each inner node is fitted once; a step is a take of one worker, an opening or an arrival of a child that has a
-- parent, or a collecting or a leaving of an inner node
pub record IsCounted (keys workers : ℕ) (t : Tally) : Type 0 where
  pub fits : t.fits ≡ keys - 1
  pub steps : t.steps ≡ workers * ((keys + (BATCH - 1)) / BATCH) + 2 * (2 * keys - 2) + 2 * (keys - 1)

-- those of a whole build: with fewer than two keys no worker is started
pub record IsBuildCounted (keys workers : ℕ) (t : Tally) : Type 0 where
  pub none : keys < 2 → (t.fits ≡ 0) × (t.steps ≡ 0)
  pub all : 2 ≤ keys → IsCounted keys workers t
