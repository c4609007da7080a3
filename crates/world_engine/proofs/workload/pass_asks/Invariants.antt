use Rattle.std.proofs.Common.{◌≡◌}
use Rattle.std.specs.List.{All, flat_map, range_with_len}
use Rattle.query_script.specs.Asks.{IsAskable}
use Rattle.world_engine.specs.Workload.{query_asks}
use Rattle.world_engine.proofs.workload.pass_asks.Given as goal

abbrev pub invariant-loop-query : goal.invariant-loop-query
invariant-loop-query l = record {
  asks : l.asks.items ≡ flat_map (query_asks l.side) (range_with_len 0 l.query);
  askable : All IsAskable l.asks.items;
}
