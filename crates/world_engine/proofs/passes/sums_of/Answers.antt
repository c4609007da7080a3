use Rattle.std.proofs.Common.{arith, ◌≤◌, sym, subst, ◌+◌}
use Rattle.world_engine.specs.Additions.{IsWithin}
use Rattle.world_engine.specs.declared.passes.TheConstants.{MOST_REPLIES}
use Rattle.world_engine.proofs.SumSteps.{sums_more, within_more, within_grows}
use Rattle.world_engine.proofs.passes.sums_of.Goals as goal

pub add-sums-requires : goal.add-sums-requires
add-sums-requires c =
    let few : c.loop-reply.reply-index ≤ MOST_REPLIES = omega arith in
    within_grows c.loop-reply.sums c.loop-reply.reply-index MOST_REPLIES few c.loop-reply.invariant.within

pub loop-reply-preserved : goal.loop-reply-preserved
loop-reply-preserved c =
    let at = c.loop-reply.reply-index in
    let reply = c.reply-item.result in
    let more = sums_more c.args.replies.now at reply c.loop-reply-test.true in
    let within = within_more c.loop-reply.sums at reply c.loop-reply.invariant.within c.add-sums.ensures.small in
    record {
      sums = cc (more, c.reply-item.is, c.add-sums.ensures.sums, c.loop-reply.invariant.sums);
      within = subst (λ sums. IsWithin sums (at + 1)) (sym c.add-sums.ensures.sums) within;
    }
