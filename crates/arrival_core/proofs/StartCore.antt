-- Lists as `start` makes them show the start, and hold a lawful state.
use Rattle.std.proofs.Common.{◌≡◌, ℕ, ◌-◌, ◌<◌, ◌≤◌, refl, ap, arith, length, false}
use Rattle.radix_tree.specs.Table.{IsTable}
use Rattle.arrival_core.specs.declared.packets.TheConstants.{MOST_WORKERS}
use Rattle.arrival_core.specs.declared.packets.Side.{Side}
use Rattle.arrival_core.specs.declared.packets.Side.TheVariants.{Left, Right}
use Rattle.arrival_core.specs.declared.packets.Phase.TheVariants.{Looking}
use Rattle.arrival_core.specs.Start.{fresh, IsStart}
use Rattle.arrival_core.specs.Frames.{live_at, packet_at}
use Rattle.arrival_core.specs.Settings.{frame_of, batch_count}
use Rattle.arrival_core.specs.Tasks.{IsTask}
use Rattle.arrival_core.specs.Forks.{HasPart, fork_at, branch_of, climber_at, claimed_at, worker_of}
use Rattle.arrival_core.specs.Cores.{Core, IsCore, setting_of, state_of, frame_of_core}
use Rattle.arrival_core.specs.Terrains.{IsStartFork, start_branch}
use Rattle.arrival_core.proofs.LawfulStart.{start_lawful}
use Rattle.arrival_core.proofs.Framing.{frame_lawful}

-- the lists as they start
pub record AreStartLists (c : Core) : Type 0 where
  pub table : IsTable c.tree
  pub task : IsTask (setting_of c)
  pub few : length c.climbers ≤ MOST_WORKERS
  pub claims : length c.claimed ≡ batch_count c.live
  pub nodes : length c.forks ≡ length c.tree.keys - 1
  pub unclaimed : (j : ℕ) → claimed_at c.claimed j ≡ false
  pub forks : (t : ℕ) → t < length c.forks → IsStartFork (frame_of_core c) t (fork_at c.forks t)
  pub parts : (j : ℕ) → HasPart (length c.live) (climber_at c.climbers j)
  pub begun : (k : ℕ) → k < length c.climbers → climber_at c.climbers k
      ≡ record { next = 0; from = 0; to = 0; phase = Looking; tally = record { fits = 0; steps = 0 } }

module _ (c : Core) (x : AreStartLists c) where
  -- a node has a fork
  below : (t : ℕ) → t < (frame_of_core c).nodes → t < length c.forks
  unfolding frame_of
  below t lt = omega (arith, lt, x.nodes)

  -- each branch is as it starts
  side : (t : ℕ) (d : Side) → t < (frame_of_core c).nodes →
      branch_of (fork_at c.forks t) d ≡ start_branch (live_at (frame_of_core c) t d) (packet_at (frame_of_core c) t d)
  side t Left lt = (x.forks t (below t lt)).left
  side t Right lt = (x.forks t (below t lt)).right

  -- no worker has begun
  fresh_worker : (k : ℕ) → k < (frame_of_core c).workers → worker_of c.live (climber_at c.climbers k) ≡ fresh
  unfolding frame_of fresh
  fresh_worker k lt = rw (x.begun k lt) refl

  -- the lists show the start
  pub shows_start : IsStart (frame_of_core c) (state_of c)
  shows_start = record {
    claimed = λ j lt. x.unclaimed j;
    opened = λ t d lt. ap (λ z. z.opened) (side t d lt);
    arrived = λ t d lt. ap (λ z. z.arrived) (side t d lt);
    collected = λ t d lt. ap (λ z. z.collected) (side t d lt);
    returned = λ t lt. (x.forks t (below t lt)).returned;
    place = λ t d lt. ap (λ z. z.place) (side t d lt);
    workers = fresh_worker;
  }

  -- and hold a lawful state
  pub start_core : IsCore c
  start_core = record {
    table = x.table;
    task = x.task;
    few = x.few;
    claims = x.claims;
    nodes = x.nodes;
    parts = x.parts;
    lawful = start_lawful (frame_of_core c) (frame_lawful (setting_of c) x.task) (state_of c) shows_start;
  }
