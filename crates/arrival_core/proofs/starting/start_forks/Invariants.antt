use Rattle.std.proofs.Common.{◌<◌, ℕ}
use Rattle.radix_tree.specs.Table.{node_at}
use Rattle.arrival_core.specs.Forks.{fork_at}
use Rattle.arrival_core.specs.Terrains.{IsStartFork, frame_at}
use Rattle.arrival_core.proofs.starting.start_forks.Given as goal

abbrev pub invariant-loop-number : goal.invariant-loop-number
invariant-loop-number l = (workers j : ℕ) → 0 < workers → j < l.number →
    IsStartFork (frame_at l.g workers) (node_at l.g.tree.now.nodes j).split
    (fork_at l.forks (node_at l.g.tree.now.nodes j).split)
