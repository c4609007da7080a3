use Rattle.std.proofs.Common.{refl, true, arith}
use Rattle.box_handoff.specs.Entries.{frame, given_of}
use Rattle.box_handoff.proofs.FrameOf.{frame_laws_of}
use Rattle.box_handoff.proofs.GrowLaws.{grew_none}
use Rattle.box_handoff.proofs.BatchLaws.{begins, climbed_all, climbed_on, fresh_small, took, took_so}
use Rattle.box_handoff.proofs.climbing.climb_with.Goals as goal

pub loop-batch-init : goal.loop-batch-init
loop-batch-init g c = record {
  climbed = record {
    table = refl;
    id = refl;
    view = c.requires.one;
    home = c.requires.home;
    grew = grew_none _ _;
    small = λ h. h;
  };
  worker = begins (frame (given_of c.args.table.now.key.value)) c.args.seat.now.me
      (frame_laws_of _ c.requires.over.given).frame_laws.some_batch c.requires.unbegun;
}

pub loop-batch-preserved-then-was_claimed : goal.loop-batch-preserved-then-was_claimed
loop-batch-preserved-then-was_claimed g c =
    let f = frame (given_of c.args.table.now.key.value) in
    let t = c.take-was_claimed.ensures in record {
      climbed = climbed_on _ _ _ _ _ c.loop-batch.invariant.climbed t.table.0 t.table.1 t.did t.out;
      worker = took_so f c.take-was_claimed.new.seat.me c.loop-batch.batch _ _ true c.if-was_claimed.true
          (took f c.loop-batch.seat.me c.take-was_claimed.new.seat.me c.loop-batch.batch c.loop-batch.tally
          c.take-was_claimed.result (omega (arith, c.loop-batch-test.true, c.requires.over.batches))
          c.loop-batch.invariant.worker t.worker);
    }

pub loop-batch-preserved : goal.loop-batch-preserved
loop-batch-preserved g c = let t = c.take-was_claimed.ensures in record {
  climbed = climbed_all _ _ _ _
      (climbed_on _ _ _ _ _ c.loop-batch.invariant.climbed t.table.0 t.table.1 t.did t.out)
      c.carry_batch-tally.ensures.climbed;
  worker = c.carry_batch-tally.ensures.worker;
}

pub returns-clause-small : goal.returns-clause-small
returns-clause-small g c = c.loop-batch.invariant.climbed.small (fresh_small c.args.seat.now.me c.requires.unbegun)
