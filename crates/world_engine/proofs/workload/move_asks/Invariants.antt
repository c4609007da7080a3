use Rattle.std.proofs.Common.{◌≡◌}
use Rattle.std.specs.Prelude.{map}
use Rattle.std.specs.List.{All, range_with_len}
use Rattle.query_script.specs.Asks.{IsAskable}
use Rattle.world_engine.specs.Workload.{move_ask}
use Rattle.world_engine.proofs.workload.move_asks.Given as goal

abbrev pub invariant-loop-number : goal.invariant-loop-number
invariant-loop-number l = record {
  asks : l.asks.items ≡ map (move_ask l.points l.side) (range_with_len 0 l.number);
  askable : All IsAskable l.asks.items;
}
