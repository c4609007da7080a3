-- Seats before and after the threads.
use Rattle.std.proofs.Common.{◌≡◌, ℕ, zero, suc, ◌+◌, ◌<◌, true, List, [], ◌∷◌, ◌++◌, length, get_or, refl, sym, ap, subst, ◌∙◌, arith}
use Rattle.std.specs.Prelude.{All, Any}
use Rattle.std.proofs.Math.ListN.{length-append}
use Rattle.std.proofs.lemmas.List.{get_or_default}
use Rattle.box_handoff.specs.declared.handoffs.Handoff.{Handoff}
use Rattle.box_handoff.specs.declared.seats.HandSeat.{HandSeat}
use Rattle.box_handoff.specs.Seats.{given_by, IsSeatOf, AreFresh, AreAll}
use Rattle.box_handoff.specs.Driving.{IsReady, Climbs, WereDone}

-- seats of a handoff that has just been made may climb
pub all_ready : (h : Handoff) (seats : List HandSeat) → AreFresh h seats → All (IsReady h) seats
all_ready h seats f k s lt = record { own = f.own k s lt; unbegun = f.unbegun k s lt }

-- and when each has climbed they are all seats, ended
pub all_done : (h : Handoff) (old new : List HandSeat) → AreFresh h old → WereDone h old new →
    length new ≡ length old → AreAll h new
all_done h old new f d e = record {
  made = f.made;
  count = e ∙ f.count;
  own = λ k s lt. (d k s (omega (arith, e, lt))).own;
  ended = λ k s lt. (d k s (omega (arith, e, lt))).ended;
  each = λ k lt.
      let in_old : k < length old = omega (arith, f.count, lt) in
      let any : HandSeat = get_or old k (seat_in old in_old) in
      let x : HandSeat = get_or new k any in (
        k,
        x,
        omega (arith, e, in_old),
        get_or_default new k x any (omega (arith, e, in_old)),
        (d k any in_old).number ∙ f.numbers k any in_old,
      );
}
  where
    seat_in : {k : ℕ} (l : List HandSeat) → k < length l → HandSeat
    seat_in [] lt = absurd (omega arith)
    seat_in (x ∷ xs) lt = x

-- what holds of both holds of each of two
each_of_two : (P : HandSeat → Type 0) (a b : HandSeat) → P a → P b → All P (a ∷ b ∷ [])
each_of_two P a b x y zero d lt = x
each_of_two P a b x y (suc zero) d lt = y
each_of_two P a b x y (suc (suc k)) d lt = absurd (omega arith)

-- a handoff of two seats, both of which have climbed
module _ (h : Handoff) (a b a' b' : HandSeat) (two : (given_by h).seats ≡ 2) (f : AreFresh h (a ∷ b ∷ []))
    (first : Climbs h a a') (second : Climbs h b b') where
  -- each number is one of the two
  each_is_there : (k : ℕ) → k < 2 → Any (λ s. s.number ≡ k) (b' ∷ a' ∷ [])
  each_is_there zero lt = (1, a', omega arith, refl, first.number ∙ f.numbers 0 a (omega arith))
  each_is_there (suc zero) lt = (0, b', omega arith, refl, second.number ∙ f.numbers 1 b (omega arith))
  each_is_there (suc (suc k)) lt = absurd (omega arith)

  -- so they are all seats, and all have climbed
  pub two_done : AreAll h (b' ∷ a' ∷ [])
  two_done = record {
    made = f.made;
    count = sym two;
    own = each_of_two (IsSeatOf h) b' a' second.own first.own;
    ended = each_of_two (λ s. s.ended ≡ true) b' a' second.ended first.ended;
    each = λ k lt. each_is_there k (omega (arith, lt, two));
  }

-- two seats that are popped are all of two
pub popped_two : (h : Handoff) (old rest none : List HandSeat) (a b : HandSeat) → AreFresh h old →
    (given_by h).seats ≡ 2 → old ≡ rest ++ b ∷ [] → rest ≡ none ++ a ∷ [] → (none ≡ []) × AreFresh h (a ∷ b ∷ [])
popped_two h old rest none a b f two e d =
    let n : length old ≡ length rest + 1 = ap (λ l. length l) e ∙ length-append rest (b ∷ []) in
    let m : length rest ≡ length none + 1 = ap (λ l. length l) d ∙ length-append none (a ∷ []) in
    let empty : none ≡ [] = is_empty none (omega (arith, n, m, f.count, two)) in
    (empty, subst (λ l. AreFresh h l) (e ∙ ap (λ l. l ++ b ∷ []) (d ∙ ap (λ l. l ++ a ∷ []) empty)) f)
  where
    is_empty : (l : List HandSeat) → length l ≡ 0 → l ≡ []
    is_empty [] z = refl
    is_empty (x ∷ xs) z = absurd (omega arith)
