use Rattle.std.proofs.Common.{arith, refl, ap, ◌∙◌, sym, subst, ◌≡◌, ℕ, inl, inr, length, get_or}
use Rattle.std.proofs.lemmas.Bool.{cases_lt}
use Rattle.box_handoff.specs.declared.seats.HandSeat.{HandSeat}
use Rattle.box_handoff.specs.declared.views.View.{View}
use Rattle.box_handoff.specs.Plays.{Mine}
use Rattle.box_handoff.specs.Cuts.{both_views}
use Rattle.box_handoff.specs.Gathering.{Covers, AllEnded, fits_of, steps_of}
use Rattle.box_handoff.proofs.Cutting.{gathers}
use Rattle.box_handoff.proofs.GatherLaws.{shorter, stands_still, stood_last, covers_left, covers_right, seat_covers, seat_over, both_over, ended_cut}
use Rattle.box_handoff.proofs.TallyLaws.{fits_both, steps_both, seat_adds_fits, seat_adds_steps, last_adds_fits, last_adds_steps}
use Rattle.box_handoff.proofs.gathering.gather.Goals as goal

pub join_seat-requires : goal.join_seat-requires
join_seat-requires c =
    let i = c.loop-other.invariant in
    let p = c.in-Some.ensures.items in
    let x = (ended_cut _ _ _ _ _ p i.ended).1 in
    (i.table, x.own.table, x.own.home, c.requires.words, gathers _ _ _ _ _ i.given i.over (seat_over _ _ _ x))

pub loop-other-init : goal.loop-other-init
loop-other-init c = record {
  table = c.requires.table;
  home = c.requires.home;
  given = c.requires.given;
  over = c.requires.over;
  ended = c.requires.ended;
  front = λ k s lt. refl;
  within = omega arith;
  covers = λ k s low high. absurd (omega (arith, low, high));
  kept = λ k h. h;
  fits = c.requires.fits;
  steps = c.requires.steps;
  fits_added = refl;
  steps_added = refl;
  fits_low = let f = c.requires.few in omega (arith, c.requires.start.fits, f);
  steps_low = let f = c.requires.few in omega (arith, c.requires.start.steps, f);
}

pub loop-other-preserved : goal.loop-other-preserved
loop-other-preserved c =
    let i = c.loop-other.invariant in
    let p = c.in-Some.ensures.items in
    let n = shorter _ _ _ p in
    let cut = ended_cut _ _ _ _ _ p i.ended in
    let x = cut.1 in
    let v : c.join_seat.new.seat.me.0 ≡ both_views c.loop-other.first.me.0 c.in-Some.other.seat.me.0
    = ap (λ (m : Mine). m.0) c.join_seat.ensures.2 in
    let low = x.own.small in record {
      table = c.join_seat.ensures.0 ∙ i.table;
      home = ap (λ (m : Mine). m.1) c.join_seat.ensures.2 ∙ i.home;
      given = ap (λ (w : View). w.given) v ∙ i.given;
      over = subst (λ (w : View). AllEnded w) (sym v) (both_over c.loop-other.first.me.0 c.in-Some.other.seat.me.0
          i.over (seat_over _ _ _ x));
      ended = cut.0;
      front = λ k s lt. stands_still _ _ _ p k s lt ∙ i.front k s (omega (arith, n, lt));
      within = omega (arith, n, i.within);
      covers = λ k s least lt. subst (λ (w : View). Covers (get_or c.args.seats.items k s).number w) (sym v)
          (elim (cases_lt k (length c.loop-other.seats.items)) [
            | inl here ↦
                let at : k ≡ length c.pop.new.self.items = omega (arith, n, least, here) in
                let is : get_or c.args.seats.items k s ≡ c.in-Some.other
                = sym (i.front k s here) ∙ ap (λ (j : ℕ). get_or c.loop-other.seats.items j s) at
                ∙ stood_last _ _ _ p s in
                subst (λ (y : HandSeat). Covers y.number
                (both_views c.loop-other.first.me.0 c.in-Some.other.seat.me.0)) (sym is)
                (covers_right _ c.loop-other.first.me.0 c.in-Some.other.seat.me.0 (seat_covers _ _ _ x))
            | inr before ↦ covers_left _ c.loop-other.first.me.0 c.in-Some.other.seat.me.0 (i.covers k s before lt)
          ]);
      kept = λ k h. subst (λ (w : View). Covers k w) (sym v)
          (covers_left _ c.loop-other.first.me.0 c.in-Some.other.seat.me.0 (i.kept k h));
      fits =
          let a : fits_of c.join_seat.new.seat.me.0 ≡ fits_of
          (both_views c.loop-other.first.me.0 c.in-Some.other.seat.me.0)
          = ap fits_of v in
          let b = fits_both c.loop-other.first.me.0 c.in-Some.other.seat.me.0 in
          let f = seat_adds_fits _ _ c.in-Some.other x.own in omega (arith, a, b, f, i.fits);
      steps =
          let a : steps_of c.join_seat.new.seat.me.0 ≡ steps_of
          (both_views c.loop-other.first.me.0 c.in-Some.other.seat.me.0)
          = ap steps_of v in
          let b = steps_both c.loop-other.first.me.0 c.in-Some.other.seat.me.0 in
          let f = seat_adds_steps _ _ c.in-Some.other x.own in omega (arith, a, b, f, i.steps);
      fits_added = let a = last_adds_fits _ _ _ p in omega (arith, a, i.fits_added);
      steps_added = let a = last_adds_steps _ _ _ p in omega (arith, a, i.steps_added);
      fits_low = omega (arith, low.fits, i.fits_low, n);
      steps_low = omega (arith, low.steps, i.steps_low, n);
    }

pub overflow_add-sum : goal.overflow_add-sum
overflow_add-sum c =
    let i = c.loop-other.invariant in
    let p = c.in-Some.ensures.items in
    let n = shorter _ _ _ p in
    let low = (ended_cut _ _ _ _ _ p i.ended).1.own.small in omega (arith, low.fits, i.fits_low, n)

pub overflow_add-sum-in-Some : goal.overflow_add-sum-in-Some
overflow_add-sum-in-Some c =
    let i = c.loop-other.invariant in
    let p = c.in-Some.ensures.items in
    let n = shorter _ _ _ p in
    let low = (ended_cut _ _ _ _ _ p i.ended).1.own.small in omega (arith, low.steps, i.steps_low, n)
