use Rattle.std.proofs.Common.{rules, arith, ap, ◌∙◌, ◌≡◌}
use Rattle.std.specs.Prelude.{map}
use Rattle.std.specs.List.{range_with_len}
use Rattle.std.proofs.lemmas.List.FromFn.{map-range_with_len_more}
use Rattle.std.proofs.lemmas.List.Elements.{All-same, All-push}
use Rattle.query_script.specs.Asks.{IsAskable}
use Rattle.world_engine.specs.Workload.{move_ask, move_asks}
use Rattle.world_engine.specs.declared.workload.TheConstants.{QUERIES}
use Rattle.world_engine.proofs.workload.move_asks.Goals as goal

pub loop-number-preserved : goal.loop-number-preserved
loop-number-preserved c =
    let number = c.loop-number.number in
    let asks = c.loop-number.asks.items in
    let more = map-range_with_len_more (move_ask c.args.points.now c.args.side) 0 number number (omega arith) in
    let askable = All-push IsAskable asks c.move_ask.result c.loop-number.invariant.askable
    c.move_ask.ensures.askable in
    record {
      asks = cc (more, c.in_ok-push.ensures.items, c.move_ask.ensures.value, c.loop-number.invariant.asks);
      askable = All-same IsAskable _ _ c.in_ok-push.ensures.items askable;
    }

pub returns-clause-asks : goal.returns-clause-asks
unfolding move_asks
returns-clause-asks c =
    let done : c.loop-number.asks.items ≡ map (move_ask c.args.points.now c.args.side) (range_with_len 0 QUERIES) =
    search rules in
    done ∙ ap (λ points. map (move_ask points c.args.side) (range_with_len 0 QUERIES)) c.requires.points
