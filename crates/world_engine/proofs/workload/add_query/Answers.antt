use Rattle.std.proofs.Common.{arith, ◌≡◌, [], ◌∷◌, ◌++◌}
use Rattle.std.proofs.lemmas.Grind.{common_steps}
use Rattle.std.proofs.lemmas.List.Elements.{All-same, All-push}
use Rattle.query_script.specs.Asks.{IsAskable}
use Rattle.query_script.specs.declared.asks.Ask.TheVariants.{Seg, Overlap, Work}
use Rattle.world_engine.specs.Workload.{query_asks}
use Rattle.world_engine.proofs.workload.add_query.Goals as goal

pub returns-clause-asks : goal.returns-clause-asks
unfolding query_asks
returns-clause-asks c = grind (arith, common_steps)

pub returns-clause-askable : goal.returns-clause-askable
returns-clause-askable c =
    let asks = c.args.asks.now.items in
    let down = Seg c.over_place-p.result c.over_place-q.result in
    let around = Overlap c.query_box.result in
    let segment = All-push IsAskable asks down c.requires.askable
    (c.over_place-p.ensures.world, c.over_place-q.ensures.world) in
    let boxed = All-push IsAskable (asks ++ down ∷ []) around segment tt in
    let worked = All-push IsAskable ((asks ++ down ∷ []) ++ around ∷ []) Work boxed tt in
    let all : c.push-3.new.self.items ≡ ((asks ++ down ∷ []) ++ around ∷ []) ++ Work ∷ [] =
    cc (c.in_ok-push.ensures.items, c.in_ok-push-2.ensures.items, c.in_ok-push-3.ensures.items) in
    All-same IsAskable _ _ all worked
