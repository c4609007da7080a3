use Rattle.std.proofs.Common.{arith, ap, length}
use Rattle.world_engine.proofs.AskedInTurn.{length-replies_to}
use Rattle.world_engine.proofs.report.add_pass.Goals as goal

pub sums_of-requires : goal.sums_of-requires
sums_of-requires g c =
    let many = length-replies_to c.args.world.now c.args.asks.now in
    omega (arith, many, ap length c.deref.ensures.value, ap length c.in_ok-replies.ensures.replies)
