use Rattle.std.proofs.Common.{arith, refl}
use Rattle.arrival_core.specs.Sums.{sum_below}
use Rattle.arrival_core.proofs.Replaying.{unreturned_more}
use Rattle.arrival_core.proofs.cores.unreturned.Goals as goal
use Rattle.arrival_core.proofs.cores.unreturned.Goals.{then-not-fork, else-not-fork}

pub loop-fork-init : goal.loop-fork-init
unfolding sum_below
loop-fork-init c = record { value = refl; most = omega arith }

pub loop-fork-preserved : goal.loop-fork-preserved
loop-fork-preserved c = elim c.if-not-fork.branch [
  | then-not-fork w ↦ record {
    value = unreturned_more c.args.forks.now c.loop-fork.fork-index c.loop-fork.count c.if-not-fork.count
        c.fork-item.result (omega arith) c.fork-item.is c.loop-fork.invariant.value
        (rw w.if-not-fork.true (omega (arith, w.count-is)));
    most = omega (arith, c.loop-fork.invariant.most);
  }
  | else-not-fork w ↦ record {
    value = unreturned_more c.args.forks.now c.loop-fork.fork-index c.loop-fork.count c.if-not-fork.count
        c.fork-item.result (omega arith) c.fork-item.is c.loop-fork.invariant.value
        (rw w.if-not-fork.false (omega (arith, w.count-is)));
    most = omega (arith, c.loop-fork.invariant.most);
  }
]
