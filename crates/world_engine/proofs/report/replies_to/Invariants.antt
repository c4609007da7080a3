use Rattle.std.proofs.Common.{◌≡◌, take}
use Rattle.world_engine.specs.Reports.{replies_to, world_after}
use Rattle.world_engine.proofs.report.replies_to.Given as goal

abbrev pub invariant-loop-ask : goal.invariant-loop-ask
invariant-loop-ask g l = record {
  replies : l.replies.items ≡ replies_to l.initial.world (take l.ask-index l.asks);
  world : l.world ≡ world_after l.initial.world (take l.ask-index l.asks);
}
