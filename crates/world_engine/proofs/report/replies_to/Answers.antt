use Rattle.world_engine.proofs.AskedInTurn.{replies_to_more, world_after_more}
use Rattle.world_engine.proofs.report.replies_to.Goals as goal

pub loop-ask-preserved : goal.loop-ask-preserved
loop-ask-preserved g c =
    let asks = c.args.asks.now in
    let at = c.loop-ask.ask-index in
    let ask = c.ask-item.result in
    let replies = replies_to_more c.args.world.now asks at ask c.loop-ask-test.true in
    let world = world_after_more c.args.world.now asks at ask c.loop-ask-test.true in
    record {
      replies = cc (
        replies,
        c.ask-item.is,
        c.in-Ok.ensures.items,
        c.in_ok-reply.ensures.reply,
        c.loop-ask.invariant.replies,
        c.loop-ask.invariant.world,
      );
      world = cc (world, c.ask-item.is, c.in_ok-reply.ensures.state, c.loop-ask.invariant.world);
    }
