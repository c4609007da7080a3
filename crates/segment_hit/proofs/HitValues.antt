-- `hit_of` is the fraction at which the segment meets the triangle, and none exactly where it does not meet it.
use Rattle.std.proofs.Common.{◌≡◌, ◌≢◌, ℤ, pos, neg_ℤ, ◌+ℤ◌, ◌≤ℤ◌, ◌<ℤ◌, ◌&&◌, unsigned_abs, true, int_le, int_lt, arith, refl, sym, ap, ◌∙◌, ◌⊎◌, inl, inr, Option, Some, None, IfSome, IsSomeAnd}
use Rattle.std.specs.Option.{option_map}
use Rattle.std.proofs.lemmas.Int.{ints}
use Rattle.std.proofs.lemmas.Bool.{cases_Bool, both_ways, and_parts, and_from, cond-true, cond-false, cond_both}
use Rattle.fixed_box.specs.declared.shapes.Point.{Point}
use Rattle.fixed_box.specs.declared.shapes.Tri.{Tri}
use Rattle.segment_hit.proofs.IntegerTests.{is_below, is_not_below, is_at_most, below_test, at_most_test}
use Rattle.segment_hit.proofs.GreatestDivisors.{quotient}
use Rattle.segment_hit.proofs.Divisions.{Solves, shares_solve, negated_solve}
use Rattle.segment_hit.proofs.Hits.{meets, passes}
use Rattle.segment_hit.proofs.HitFractions.{answer_is}
use Rattle.segment_hit.specs.HitOf.{Shares, ratio_of, lowest_terms, shares_of, negated, faced, is_inside, fraction_of, hit_of}
use Rattle.segment_hit.specs.Determinants.{IsInside}
use Rattle.segment_hit.specs.Meeting.{MeetsAt, IsHit, IsFraction}
use Rattle.segment_hit.specs.declared.fraction.Frac.{Frac}

-- the tests are those of the relation
inside_from_test : (m : Shares) → is_inside m ≡ true → IsInside m
unfolding is_inside
inside_from_test m e =
    let begun = int_le (pos 0) m.time in
    let ended = int_le m.time m.whole in
    let second = int_le (pos 0) m.second in
    let third = int_le (pos 0) m.third in
    let first = int_le (m.second +ℤ m.third) m.whole in
    let a = and_parts (begun && ended && second && third) first e in
    let b = and_parts (begun && ended && second) third a.0 in
    let c = and_parts (begun && ended) second b.0 in
    let d = and_parts begun ended c.0 in
    record {
      begun = is_at_most _ _ d.0;
      ended = is_at_most _ _ d.1;
      second_weight = is_at_most _ _ c.1;
      third_weight = is_at_most _ _ b.1;
      first_weight = is_at_most _ _ a.1;
    }

-- and the other way round
test_from_inside : (m : Shares) → IsInside m → is_inside m ≡ true
unfolding is_inside
test_from_inside m h =
    let begun = at_most_test _ _ h.begun in
    let ended = at_most_test _ _ h.ended in
    let second = at_most_test _ _ h.second_weight in
    let third = at_most_test _ _ h.third_weight in
    let first = at_most_test _ _ h.first_weight in
    and_from _ _ (and_from _ _ (and_from _ _ (and_from _ _ begun ended) second) third) first

-- with a whole of either sign the shares are such a combination
faced_solves : (p q : Point) (t : Tri) → Solves p q t (faced (shares_of p q t))
unfolding faced
faced_solves p q t =
    let m = shares_of p q t in
    cond_both (int_lt m.whole (pos 0)) (negated m) m (Solves p q t)
    (λ e. negated_solve p q t m (shares_solve p q t)) (λ e. shares_solve p q t)

-- a whole that is above 0 once it is faced was not 0
faced_from_nonzero : (m : Shares) → pos 0 <ℤ (faced m).whole → m.whole ≢ pos 0
unfolding faced negated
faced_from_nonzero m =
    cond_both (int_lt m.whole (pos 0)) (negated m) m (λ (n : Shares). pos 0 <ℤ n.whole → m.whole ≢ pos 0)
    (λ e. below m.whole) (λ e. above m.whole)
  where
    below : (z : ℤ) → pos 0 <ℤ neg_ℤ z → z ≢ pos 0
    below z h = omega (arith, ints)

    above : (z : ℤ) → pos 0 <ℤ z → z ≢ pos 0
    above z h = omega (arith, ints)

-- and one that was not 0 is above 0
nonzero_faced : (m : Shares) → m.whole ≢ pos 0 → pos 0 <ℤ (faced m).whole
unfolding faced negated
nonzero_faced m h =
    cond_both (int_lt m.whole (pos 0)) (negated m) m (λ (n : Shares). pos 0 <ℤ n.whole)
    (λ e. below m.whole (is_below m.whole (pos 0) e)) (λ e. above m.whole h (is_not_below m.whole (pos 0) e))
  where
    below : (z : ℤ) → z <ℤ pos 0 → pos 0 <ℤ neg_ℤ z
    below z h = omega (arith, ints)

    above : (z : ℤ) → z ≢ pos 0 → pos 0 ≤ℤ z → pos 0 <ℤ z
    above z h k = omega (arith, ints)

-- the segment does not meet the triangle, and the value is none
pub record IsMiss (p q : Point) (t : Tri) : Type 0 where
  pub value : hit_of p q t ≡ None
  pub none : (T D : ℤ) → MeetsAt p q t T D → ⊥

-- the segment meets the triangle at the fraction, and the value is its parts
pub record IsHitAt (p q : Point) (t : Tri) (f : Frac) : Type 0 where
  pub value : hit_of p q t ≡ Some (ratio_of f)
  pub hit : IsHit p q t f

-- it is one or the other
pub miss_or_hit : (p q : Point) (t : Tri) → IsMiss p q t ⊎ ((f : Frac) × IsHitAt p q t f)
unfolding hit_of fraction_of shares_of
miss_or_hit p q t =
    let m = faced (shares_of p q t) in
    let solves = faced_solves p q t in
    let above = int_lt (pos 0) m.whole in
    let some = Some (lowest_terms (unsigned_abs m.time) (unsigned_abs m.whole)) in
    elim (cases_Bool (above && is_inside m)) [
      | inl e ↦
          let parts = and_parts above (is_inside m) e in
          let whole : pos 0 <ℤ m.whole = is_below (pos 0) m.whole parts.0 in
          let inside : IsInside m = inside_from_test m parts.1 in
          let crosses = faced_from_nonzero (shares_of p q t) whole in
          let f = quotient m.time m.whole inside.begun whole in
          inr (
            f.0,
            record {
              value = cond-true (above && is_inside m) some None e ∙ ap Some (sym f.1);
              hit = (m.time, m.whole, meets p q t m crosses solves whole inside, f.2);
            },
          )
      | inr e ↦ inl (record {
        value = cond-false (above && is_inside m) some None e;
        none = λ T D h.
            let whole : pos 0 <ℤ m.whole = nonzero_faced (shares_of p q t) h.crosses in
            let inside = (passes p q t m T D solves whole h).0 in
            both_ways (above && is_inside m) e
            (and_from above (is_inside m) (below_test (pos 0) m.whole whole) (test_from_inside m inside));
      })
    ]

-- what is answered for each meeting, and for nothing else, is the value
pub value_is : (p q : Point) (t : Tri) (o : Option Frac) → IfSome o (λ f. IsHit p q t f) →
    ((T D : ℤ) → MeetsAt p q t T D → IsSomeAnd o (λ f. IsFraction f T D)) → option_map ratio_of o ≡ hit_of p q t
value_is p q t o found only = elim (miss_or_hit p q t) [
  | inl miss ↦ ap (λ (x : Option Frac). option_map ratio_of x) (no_answer o found miss) ∙ sym miss.value
  | inr h ↦ ap (λ (x : Option Frac). option_map ratio_of x) (answer_is p q t o h.0 only h.1.hit) ∙ sym h.1.value
]
  where
    no_answer : (o : Option Frac) → IfSome o (λ f. IsHit p q t f) → IsMiss p q t → o ≡ None
    no_answer None h miss = refl
    no_answer (Some f) h miss = absurd (miss.none h.0 h.1 h.2)
