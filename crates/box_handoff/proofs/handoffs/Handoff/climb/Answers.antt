use Rattle.std.proofs.Common.{arith, sym, subst, ◌≡◌, ◌+◌}
use Rattle.box_handoff.specs.declared.views.About.{About}
use Rattle.box_handoff.specs.Entries.{IsGiven, given_of, frame, numbers}
use Rattle.box_handoff.proofs.FrameOf.{live_few}
use Rattle.box_handoff.proofs.handoffs.Handoff.climb.Goals as goal

pub batches_of-base-requires : goal.batches_of-base-requires
batches_of-base-requires g c = let ok = c.requires.own.made.given in let l = live_few _ ok in omega
    (arith, l, ok.task.lawful.few)

pub climb_with-tally-requires-clause-over : goal.climb_with-tally-requires-clause-over
climb_with-tally-requires-clause-over g c = λ κs o. let made = c.requires.own.made in record {
  key_is = made.key_is;
  batches = subst (λ (a : About). c.batches_of-base.result ≡ (frame (given_of a)).batches) (sym made.key_is)
      c.batches_of-base.ensures.value;
  words = subst (λ (a : About). c.args.self.now.table.shared.table_id.words
      ≡ (frame (given_of a)).batches + (numbers (given_of a)).count) (sym made.key_is) made.words;
  room = made.room;
  given = subst (λ (a : About). IsGiven (given_of a)) (sym made.key_is) made.given;
}
