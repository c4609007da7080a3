-- `nearest_of` is the nearest hit, and none exactly where no triangle is met.
use Rattle.std.proofs.Common.{◌≡◌, ℕ, suc, ◌+◌, ◌-◌, ◌<◌, ◌≤◌, ◌*ℤ◌, ◌<ℤ◌, refl, sym, ap, ◌∙◌, subst, arith, ◌⊎◌, inl, inr, List, [], ◌∷◌, length, get_or, true, false, Option, None, Some, IfSome, IsSome}
use Rattle.std.specs.Option.{option_map}
use Rattle.std.proofs.lemmas.Bool.{cases_eq, cases_Bool, cond-true, cond-false}
use Rattle.fixed_box.specs.declared.shapes.Point.{Point}
use Rattle.fixed_box.specs.declared.shapes.Tri.{Tri}
use Rattle.segment_hit.specs.HitOf.{Ratio, ratio_of, hit_of}
use Rattle.segment_hit.specs.Meeting.{IsHit}
use Rattle.segment_hit.specs.FractionOrder.{IsAtMost}
use Rattle.segment_hit.specs.declared.fraction.Frac.{Frac}
use Rattle.segment_hit.proofs.IntegerTests.{is_at_most, is_not_at_most}
use Rattle.segment_hit.proofs.HitFractions.{one_hit}
use Rattle.segment_hit.proofs.HitValues.{IsMiss, IsHitAt, miss_or_hit}
use Rattle.traversal.specs.Nearest.{no_tri, triangle_of, IsMet, IsNearest}
use Rattle.traversal.specs.NearestOf.{NearestHit, parts_of, ratio_le, nearer_of, numbered_hit, nearest_from, nearest_of}
use Rattle.traversal.specs.Nearing.{IsNoFarther}
use Rattle.traversal.proofs.HitOrder.{no_farther_refl, no_farther_trans, no_farther_at_most, no_farther_number, at_most_is_no_farther}
use Rattle.traversal.proofs.NearestLaws.{one_fraction, one_number}

-- of triangles counted from a number on, that of a number is met at the fraction
record IsMetFrom (first : ℕ) (tris : List Tri) (p q : Point) (number : ℕ) (at : Frac) : Type 0 where
  from : first ≤ number
  below : number < first + length tris
  hit : IsHit p q (get_or tris (number - first) no_tri) at

-- none of them is met, and the value is none
record IsNone (first : ℕ) (tris : List Tri) (p q : Point) : Type 0 where
  value : nearest_from first tris p q ≡ None
  none : (number : ℕ) (at : Frac) → IsMetFrom first tris p q number at → ⊥

-- a hit of theirs than which none is nearer, nor as near and of a lower number, and the value is its parts
record IsLeast (first : ℕ) (tris : List Tri) (p q : Point) (h : ℕ × Frac) : Type 0 where
  value : nearest_from first tris p q ≡ Some (parts_of h)
  met : IsMetFrom first tris p q h.0 h.1
  least : (number : ℕ) (at : Frac) → IsMetFrom first tris p q number at → IsNoFarther h (number, at)

module _ (p q : Point) (first : ℕ) (t : Tri) (tris : List Tri) where
  -- what is met is the first triangle or one of the others
  own_or_later : (n : ℕ) (f : Frac) → IsMetFrom first (t ∷ tris) p q n f →
      ((n ≡ first) × IsHit p q t f) ⊎ IsMetFrom (first + 1) tris p q n f
  own_or_later n f m =
      let P : ℕ → Type 0 = λ i. IsHit p q (get_or (t ∷ tris) i no_tri) f in
      elim (cases_eq n first) [
        | inl e ↦
            let start : n - first ≡ 0 = omega arith in
            inl (e, subst P start m.hit)
        | inr ne ↦
            let next : n - first ≡ suc (n - (first + 1)) = omega arith in
            inr (record { from = omega arith; below = omega arith; hit = subst P next m.hit })
      ]

  -- the first, where it is met
  own_met : (f : Frac) → IsHit p q t f → IsMetFrom first (t ∷ tris) p q first f
  own_met f h =
      let P : ℕ → Type 0 = λ i. IsHit p q (get_or (t ∷ tris) i no_tri) f in
      let start : 0 ≡ first - first = omega arith in
      record { from = omega arith; below = omega arith; hit = subst P start h }

  -- and one of the others
  later_met : (n : ℕ) (f : Frac) → IsMetFrom (first + 1) tris p q n f → IsMetFrom first (t ∷ tris) p q n f
  later_met n f m =
      let P : ℕ → Type 0 = λ i. IsHit p q (get_or (t ∷ tris) i no_tri) f in
      let next : suc (n - (first + 1)) ≡ n - first = omega arith in
      record { from = omega arith; below = omega arith; hit = subst P next m.hit }

  -- the value of both
  step : (own : Option Ratio) (later all : Option NearestHit) → hit_of p q t ≡ own →
      nearest_from (first + 1) tris p q ≡ later →
      nearer_of (option_map (λ at. record { number = first; at = at }) own) later ≡ all →
      nearest_from first (t ∷ tris) p q ≡ all
  unfolding nearest_from numbered_hit
  step own later all e l r =
      let mark : Option Ratio → Option NearestHit = option_map (λ at. record { number = first; at = at }) in
      ap (λ (x : Option Ratio). nearer_of (mark x) (nearest_from (first + 1) tris p q)) e
      ∙ ap (λ (x : Option NearestHit). nearer_of (mark own) x) l ∙ r

  -- neither the first nor another is met
  neither : IsMiss p q t → IsNone (first + 1) tris p q → IsNone first (t ∷ tris) p q
  unfolding nearer_of
  neither miss none = record {
    value = step None None None miss.value none.value refl;
    none = λ n f m. elim (own_or_later n f m) [
      | inl own ↦ miss.none own.1.0 own.1.1 own.1.2
      | inr later ↦ none.none n f later
    ];
  }

  -- the first is not met, and another is
  later_alone : (h : ℕ × Frac) → IsMiss p q t → IsLeast (first + 1) tris p q h → IsLeast first (t ∷ tris) p q h
  unfolding nearer_of
  later_alone h miss k = record {
    value = step None (Some (parts_of h)) (Some (parts_of h)) miss.value k.value refl;
    met = later_met h.0 h.1 k.met;
    least = λ n f m. elim (own_or_later n f m) [
      | inl own ↦ absurd (miss.none own.1.0 own.1.1 own.1.2)
      | inr later ↦ k.least n f later
    ];
  }

  -- the first is no farther than itself
  itself : (f : Frac) → IsHit p q t f → (n : ℕ) (g : Frac) → n ≡ first → IsHit p q t g →
      IsNoFarther (first, f) (n, g)
  itself f h n g e k =
      subst (λ (m : ℕ). IsNoFarther (first, f) (m, g)) (sym e)
      (subst (λ (x : Frac). IsNoFarther (first, f) (first, x)) (one_hit p q t f g h k) (no_farther_refl (first, f)))

  -- the first is met, and no other
  own_alone : (f : Frac) → IsHitAt p q t f → IsNone (first + 1) tris p q → IsLeast first (t ∷ tris) p q (first, f)
  unfolding nearer_of
  own_alone f h none = record {
    value = step (Some (ratio_of f)) None (Some (parts_of (first, f))) h.value none.value refl;
    met = own_met f h.hit;
    least = λ n g m. elim (own_or_later n g m) [
      | inl own ↦ itself f h.hit n g own.0 own.1
      | inr later ↦ absurd (none.none n g later)
    ];
  }

  -- both are met, and the first is no farther
  own_first : (f : Frac) (h : ℕ × Frac) → IsHitAt p q t f → IsLeast (first + 1) tris p q h →
      ratio_le (ratio_of f) (ratio_of h.1) ≡ true → IsLeast first (t ∷ tris) p q (first, f)
  unfolding nearer_of ratio_le
  own_first f h own k e =
      let at_most : IsAtMost f h.1 = is_at_most (f.num *ℤ h.1.den) (h.1.num *ℤ f.den) e in
      let met = k.met in
      let before : first ≤ h.0 = omega (arith, met.from) in
      let nearer = at_most_is_no_farther (first, f) h at_most before in
      record {
        value =
            step (Some (ratio_of f)) (Some (parts_of h)) (Some (parts_of (first, f))) own.value k.value
            (cond-true (ratio_le (ratio_of f) (ratio_of h.1)) (Some (parts_of (first, f))) (Some (parts_of h)) e);
        met = own_met f own.hit;
        least = λ n g m. elim (own_or_later n g m) [
          | inl here ↦ itself f own.hit n g here.0 here.1
          | inr later ↦ no_farther_trans (first, f) h (n, g) nearer (k.least n g later)
        ];
      }

  -- both are met, and another is nearer
  later_first : (f : Frac) (h : ℕ × Frac) → IsHitAt p q t f → IsLeast (first + 1) tris p q h →
      ratio_le (ratio_of f) (ratio_of h.1) ≡ false → IsLeast first (t ∷ tris) p q h
  unfolding nearer_of ratio_le
  later_first f h own k e =
      let below : (h.1.num *ℤ f.den) <ℤ (f.num *ℤ h.1.den) = is_not_at_most (f.num *ℤ h.1.den) (h.1.num *ℤ f.den) e in
      record {
        value =
            step (Some (ratio_of f)) (Some (parts_of h)) (Some (parts_of h)) own.value k.value
            (cond-false (ratio_le (ratio_of f) (ratio_of h.1)) (Some (parts_of (first, f))) (Some (parts_of h)) e);
        met = later_met h.0 h.1 k.met;
        least = λ n g m. elim (own_or_later n g m) [
          | inl here ↦ no_farther_trans h (first, f) (n, g) (inl below) (itself f own.hit n g here.0 here.1)
          | inr later ↦ k.least n g later
        ];
      }

-- none is met, or one is the least
none_or_least : (p q : Point) (first : ℕ) (tris : List Tri) →
    IsNone first tris p q ⊎ ((h : ℕ × Frac) × IsLeast first tris p q h)
unfolding nearest_from
none_or_least p q first [] = inl (record { value = refl; none = λ n f m. absurd (omega arith) })
none_or_least p q first (t ∷ tris) = elim (miss_or_hit p q t) [
  | inl miss ↦ elim (none_or_least p q (first + 1) tris) [
    | inl none ↦ inl (neither p q first t tris miss none)
    | inr later ↦ inr (later.0, later_alone p q first t tris later.0 miss later.1)
  ]
  | inr own ↦ elim (none_or_least p q (first + 1) tris) [
    | inl none ↦ inr ((first, own.0), own_alone p q first t tris own.0 own.1 none)
    | inr later ↦ elim (cases_Bool (ratio_le (ratio_of own.0) (ratio_of later.0.1))) [
      | inl e ↦ inr ((first, own.0), own_first p q first t tris own.0 later.0 own.1 later.1 e)
      | inr e ↦ inr (later.0, later_first p q first t tris own.0 later.0 own.1 later.1 e)
    ]
  ]
]

module _ (tris : List Tri) (p q : Point) where
  -- counted from 1 on, all triangles
  met_in : (n : ℕ) (f : Frac) → IsMet tris p q n f → IsMetFrom 1 tris p q n f
  unfolding triangle_of
  met_in n f m = record { from = omega arith; below = omega arith; hit = m.hit }

  -- and back
  met_out : (n : ℕ) (f : Frac) → IsMetFrom 1 tris p q n f → IsMet tris p q n f
  unfolding triangle_of
  met_out n f m = record { from_one = omega arith; to_count = omega arith; hit = m.hit }

  -- the least of all is the nearest
  least_is_nearest : (h : ℕ × Frac) → IsLeast 1 tris p q h → IsNearest tris p q h.0 h.1
  least_is_nearest h k = record {
    met = met_out h.0 h.1 k.met;
    least = λ n f m. no_farther_at_most h (n, f) (k.least n f (met_in n f m));
    lowest = λ n m. no_farther_number h.0 n h.1 (k.least n h.1 (met_in n h.1 m));
  }

  -- an answer that is the nearest hit, where there is one, is the value
  pub value_is : (o : Option (ℕ × Frac)) → IfSome o (λ h. IsNearest tris p q h.0 h.1) →
      ((n : ℕ) (f : Frac) → IsMet tris p q n f → IsSome o) → option_map parts_of o ≡ nearest_of tris p q
  unfolding nearest_of
  value_is None found only = elim (none_or_least p q 1 tris) [
    | inl none ↦ sym none.value
    | inr h ↦ let some = only h.0.0 h.0.1 (met_out h.0.0 h.0.1 h.1.met) in absurd (cc)
  ]
  value_is (Some h) found only = elim (none_or_least p q 1 tris) [
    | inl none ↦ absurd (none.none h.0 h.1 (met_in h.0 h.1 found.met))
    | inr k ↦
        let nearest = least_is_nearest k.0 k.1 in
        let number = one_number tris p q h.0 k.0.0 h.1 k.0.1 found nearest in
        let fraction = one_fraction tris p q h.0 k.0.0 h.1 k.0.1 found nearest in
        let same : h ≡ k.0 = λ i. (number i, fraction i) in
        ap (λ (x : ℕ × Frac). Some (parts_of x)) same ∙ sym k.1.value
  ]
