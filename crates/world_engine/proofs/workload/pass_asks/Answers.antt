use Rattle.std.proofs.Common.{rules}
use Rattle.obj_text.proofs.HeightFields.{rows_more}
use Rattle.world_engine.specs.Workload.{query_asks, pass_asks}
use Rattle.world_engine.proofs.workload.pass_asks.Goals as goal

pub loop-query-preserved : goal.loop-query-preserved
loop-query-preserved c =
    let more = rows_more (query_asks c.args.side) c.loop-query.query in
    search (rules, c.in_ok-add_query.ensures.asks, c.in_ok-add_query.ensures.askable, more)

pub returns-clause-asks : goal.returns-clause-asks
unfolding pass_asks
returns-clause-asks c = search rules
