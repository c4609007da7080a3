use Rattle.std.proofs.Common.{◌≡◌, arith, ap, ◌∙◌, sym, subst, ◌+◌, ◌<◌, ℕ}
use Rattle.std.specs.Prelude.{All}
use Rattle.box_handoff.specs.declared.views.About.{About}
use Rattle.box_handoff.specs.declared.views.View.{View}
use Rattle.arrival_core.specs.declared.packets.Side.{Side}
use Rattle.box_handoff.specs.LiveNodes.{Shown, slotted}
use Rattle.box_handoff.specs.Rule.{bit_on, side_no, node_word}
use Rattle.box_handoff.specs.Entries.{setting_of, given_of, frame, numbers}
use Rattle.box_handoff.specs.Seats.{id_of}
use Rattle.box_handoff.specs.Gathering.{HasEnded, Covers, AreKept}
use Rattle.box_handoff.specs.Counts.{IsLiveCounted}
use Rattle.box_handoff.proofs.FrameOf.{frame_is}
use Rattle.box_handoff.proofs.GatherLaws.{shorter, last_ended, rest_ended, seat_covers, seat_over, all_covered, kept, told_by}
use Rattle.box_handoff.proofs.TallyLaws.{seat_adds_fits, seat_adds_steps, last_adds_fits, last_adds_steps, counts_are}
use Rattle.box_handoff.proofs.gathering.finish.Goals as goal

pub unreachable-requires : goal.unreachable-requires
unreachable-requires c =
    let a = c.requires.seats in
    omega (arith, c.in_default.ensures.cases.0, c.args.seats.ok, a.count, a.made.given.task.one_worker)

pub gather-seat-requires-clause-table : goal.gather-seat-requires-clause-table
gather-seat-requires-clause-table c = (last_ended _ _ _ _ c.requires.seats c.in-Some.ensures.items).own.table

pub gather-seat-requires-clause-words : goal.gather-seat-requires-clause-words
gather-seat-requires-clause-words c =
    let made = c.requires.seats.made in
    let b = (frame_is _ made.given).some_batch in omega (arith, b, made.words)

pub gather-seat-requires-clause-home : goal.gather-seat-requires-clause-home
gather-seat-requires-clause-home c = (last_ended _ _ _ _ c.requires.seats c.in-Some.ensures.items).own.home

pub gather-seat-requires-clause-given : goal.gather-seat-requires-clause-given
gather-seat-requires-clause-given c = ap (λ (v : View). v.given)
    (last_ended _ _ _ _ c.requires.seats c.in-Some.ensures.items).own.view
    ∙ sym (ap given_of c.requires.seats.made.key_is)

pub gather-seat-requires-clause-over : goal.gather-seat-requires-clause-over
gather-seat-requires-clause-over c = seat_over _ _ _ (last_ended _ _ _ _ c.requires.seats c.in-Some.ensures.items)

pub gather-seat-requires-clause-ended : goal.gather-seat-requires-clause-ended
gather-seat-requires-clause-ended c = subst (λ (a : About). All
    (HasEnded (given_of a) (id_of c.args.handoff)) c.pop.new.self.items) (sym c.requires.seats.made.key_is)
    (rest_ended _ _ _ _ c.requires.seats c.in-Some.ensures.items)

pub gather-seat-requires-clause-few : goal.gather-seat-requires-clause-few
gather-seat-requires-clause-few c =
    let a = c.requires.seats in
    let n = shorter _ _ _ c.in-Some.ensures.items in omega (arith, n, a.count, a.made.given.few)

pub gather-seat-requires-clause-start : goal.gather-seat-requires-clause-start
gather-seat-requires-clause-start c = (last_ended _ _ _ _ c.requires.seats c.in-Some.ensures.items).own.small

pub gather-seat-requires-clause-fits : goal.gather-seat-requires-clause-fits
gather-seat-requires-clause-fits c = seat_adds_fits _ _ _
    (last_ended _ _ _ _ c.requires.seats c.in-Some.ensures.items).own

pub gather-seat-requires-clause-steps : goal.gather-seat-requires-clause-steps
gather-seat-requires-clause-steps c = seat_adds_steps _ _ _
    (last_ended _ _ _ _ c.requires.seats c.in-Some.ensures.items).own

pub returns-clause-taking : goal.returns-clause-taking
returns-clause-taking c =
    let made = c.requires.seats.made in record {
      kept = subst (λ (a : About). AreKept (given_of a) c.close_with.result.slots.items) made.key_is
          (kept (given_of c.args.handoff.table.shared.key.value) _ _ _ _ c.close_with.ensures.values.2
          (subst (λ (a : About). (k : ℕ) → k < (given_of a).seats → Covers k c.gather-seat.result.0.me.0)
          (sym made.key_is) (all_covered _ _ _ _ c.requires.seats c.in-Some.ensures.items c.in-Some.last.seat.me.0
          c.gather-seat.result.0.me.0 c.gather-seat.ensures.covers c.gather-seat.ensures.kept
          (seat_covers _ _ _ (last_ended _ _ _ _ c.requires.seats c.in-Some.ensures.items)))));
      places = c.close_with.ensures.counts.1 ∙ made.slots;
      full = λ k low lt. c.close_with.ensures.values.1 k low lt;
      empty = λ k low. absurd (omega arith);
    }

pub returns-clause-flags : goal.returns-clause-flags
returns-clause-flags c =
    let made = c.requires.seats.made in record {
      places = c.close_with.ensures.counts.0 ∙ made.words;
      full = λ k low lt. c.close_with.ensures.values.0 k low lt;
      tells = subst (λ (a : About). (t : ℕ) (d : Side) → Shown (frame (given_of a)) t →
          bit_on (node_word (frame (given_of a)) (numbers (given_of a)) c.close_with.result.words.items t)
          (7 + side_no d) ≡ slotted (frame (given_of a)) t d) made.key_is
          (told_by (given_of c.args.handoff.table.shared.key.value) _ _ _ _ c.close_with.ensures.values.2
          (subst (λ (a : About). (k : ℕ) → k < (given_of a).seats → Covers k c.gather-seat.result.0.me.0)
          (sym made.key_is) (all_covered _ _ _ _ c.requires.seats c.in-Some.ensures.items c.in-Some.last.seat.me.0
          c.gather-seat.result.0.me.0 c.gather-seat.ensures.covers c.gather-seat.ensures.kept
          (seat_covers _ _ _ (last_ended _ _ _ _ c.requires.seats c.in-Some.ensures.items)))));
    }

pub returns-clause-live_counts : goal.returns-clause-live_counts
returns-clause-live_counts c =
    let made = c.requires.seats.made in
    subst (λ (a : About). IsLiveCounted (setting_of (given_of a)) c.gather-seat.result.1) made.key_is
    (counts_are (given_of c.args.handoff.table.shared.key.value) _ _ _ _ c.close_with.ensures.values.2
    (subst (λ (a : About). (k : ℕ) → k < (given_of a).seats → Covers k c.gather-seat.result.0.me.0) (sym made.key_is)
    (all_covered _ _ _ _ c.requires.seats c.in-Some.ensures.items c.in-Some.last.seat.me.0 c.gather-seat.result.0.me.0
    c.gather-seat.ensures.covers c.gather-seat.ensures.kept
    (seat_covers _ _ _ (last_ended _ _ _ _ c.requires.seats c.in-Some.ensures.items))))
    c.gather-seat.result.1 c.gather-seat.ensures.fits c.gather-seat.ensures.steps)

pub returns-clause-sum : goal.returns-clause-sum
returns-clause-sum c = record {
  fits = let a = last_adds_fits _ _ _ c.in-Some.ensures.items in omega (arith, a, c.gather-seat.ensures.fits_sum);
  steps = let a = last_adds_steps _ _ _ c.in-Some.ensures.items in omega (arith, a, c.gather-seat.ensures.steps_sum);
}
