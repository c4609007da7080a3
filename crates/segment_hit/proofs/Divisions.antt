-- The relation on points, told by differences of points, and the determinants that solve it.
use Rattle.std.proofs.Common.{◌≡◌, ◌≢◌, ℤ, pos, ◌+ℤ◌, ◌-ℤ◌, ◌*ℤ◌, ◌<ℤ◌, neg_ℤ, ◌⊎◌, inl, inr, sym, ap, ◌∙◌, subst, arith}
use Rattle.std.proofs.lemmas.Int.{ints}
use Rattle.fixed_box.specs.declared.shapes.Point.{Point}
use Rattle.fixed_box.specs.declared.shapes.Tri.{Tri}
use Rattle.segment_hit.proofs.Integers.{parts, same_diff, to_diff, cancel, linear, neg-times, times-neg}
use Rattle.segment_hit.proofs.Combinations.{Combines, cramer, time_is, second_is, third_is}
use Rattle.segment_hit.specs.Vectors.{from_to}
use Rattle.segment_hit.specs.HitOf.{Shares, whole_of, shares_of, negated}
use Rattle.segment_hit.specs.Determinants.{IsInside, AreDeterminantsOf, AreNegated, shares}
use Rattle.segment_hit.specs.Meeting.{Weighs}
use Rattle.segment_hit.specs.declared.vectors.Determinants.{Determinants}

-- on one axis: weighed coordinates, and weighed differences from the first corner and from the start
shifted : (p q a b c T u v w : ℤ) →
    T *ℤ (q -ℤ p) +ℤ (u *ℤ a +ℤ v *ℤ b +ℤ w *ℤ c)
    ≡ ((u +ℤ v +ℤ w) *ℤ (a -ℤ p) +ℤ v *ℤ (b -ℤ a) +ℤ w *ℤ (c -ℤ a)) +ℤ ((u +ℤ v +ℤ w) *ℤ p +ℤ T *ℤ (q -ℤ p))
shifted p q a b c T u v w =
    rw (← parts p, ← parts q, ← parts a, ← parts b, ← parts c, ← parts T, ← parts u, ← parts v, ← parts w)
    (simp to_diff (same_diff _ _ _ _ (omega arith)))

-- on one axis: from points to differences
axis_in : (p q a b c T D u v w : ℤ) → u +ℤ v +ℤ w ≡ D →
    D *ℤ p +ℤ T *ℤ (q -ℤ p) ≡ u *ℤ a +ℤ v *ℤ b +ℤ w *ℤ c
    → T *ℤ (q -ℤ p) ≡ D *ℤ (a -ℤ p) +ℤ v *ℤ (b -ℤ a) +ℤ w *ℤ (c -ℤ a)
axis_in p q a b c T D u v w e h = cancel _ _ _ _ (rw (← e) (shifted p q a b c T u v w)) h

-- on one axis: from differences to points
axis_out : (p q a b c T D u v w : ℤ) → u +ℤ v +ℤ w ≡ D →
    T *ℤ (q -ℤ p) ≡ D *ℤ (a -ℤ p) +ℤ v *ℤ (b -ℤ a) +ℤ w *ℤ (c -ℤ a)
    → D *ℤ p +ℤ T *ℤ (q -ℤ p) ≡ u *ℤ a +ℤ v *ℤ b +ℤ w *ℤ c
axis_out p q a b c T D u v w e h =
    let s : T *ℤ (q -ℤ p) +ℤ (u *ℤ a +ℤ v *ℤ b +ℤ w *ℤ c)
    ≡ (D *ℤ (a -ℤ p) +ℤ v *ℤ (b -ℤ a) +ℤ w *ℤ (c -ℤ a)) +ℤ (D *ℤ p +ℤ T *ℤ (q -ℤ p)) =
    rw (← e) (shifted p q a b c T u v w) in
    omega (arith, linear)

-- the relation by differences: T/D of the way is the first corner's difference and v and w times the sides
abbrev pub Divides : Point → Point → Tri → (D T v w : ℤ) → Type 0
Divides p q t D T v w = Combines D T v w (from_to p t.a) (from_to p q) (from_to t.a t.b) (from_to t.a t.c)

-- weights that balance give a combination of the sides
pub divides : (p q : Point) (t : Tri) (T D u v w : ℤ) → Weighs p q t T D u v w → Divides p q t D T v w
divides p q t T D u v w h = record {
  on_x = axis_in p.x q.x t.a.x t.b.x t.c.x T D u v w h.whole h.on_x;
  on_y = axis_in p.y q.y t.a.y t.b.y t.c.y T D u v w h.whole h.on_y;
  on_z = axis_in p.z q.z t.a.z t.b.z t.c.z T D u v w h.whole h.on_z;
}

-- and the determinants, where they pass the tests, are weights that balance
pub weighs : (p q : Point) (t : Tri) (m : Shares) → Divides p q t m.whole m.time m.second m.third → IsInside m
    → Weighs p q t m.time m.whole (m.whole -ℤ m.second -ℤ m.third) m.second m.third
weighs p q t m h i =
    let T = m.time in
    let D = m.whole in
    let v = m.second in
    let w = m.third in
    let e : D -ℤ v -ℤ w +ℤ v +ℤ w ≡ D = omega (arith, linear) in
    record {
      first = omega (arith, ints, i.first_weight);
      second = i.second_weight;
      third = i.third_weight;
      whole = e;
      on_x = axis_out p.x q.x t.a.x t.b.x t.c.x T D (D -ℤ v -ℤ w) v w e h.on_x;
      on_y = axis_out p.y q.y t.a.y t.b.y t.c.y T D (D -ℤ v -ℤ w) v w e h.on_y;
      on_z = axis_out p.z q.z t.a.z t.b.z t.c.z T D (D -ℤ v -ℤ w) v w e h.on_z;
    }

-- the numbers of m are such a combination, and those of any other are in the same ratio
pub record Solves (p q : Point) (t : Tri) (m : Shares) : Type 0 where
  pub combines : Divides p q t m.whole m.time m.second m.third
  pub time_is : (D T v w : ℤ) → Divides p q t D T v w → T *ℤ m.whole ≡ D *ℤ m.time
  pub second_is : (D T v w : ℤ) → Divides p q t D T v w → v *ℤ m.whole ≡ D *ℤ m.second
  pub third_is : (D T v w : ℤ) → Divides p q t D T v w → w *ℤ m.whole ≡ D *ℤ m.third

-- the shares of the segment and the triangle are such
pub shares_solve : (p q : Point) (t : Tri) → Solves p q t (shares_of p q t)
unfolding shares_of
shares_solve p q t =
    let r = from_to p t.a in
    let d = from_to p q in
    let f = from_to t.a t.b in
    let g = from_to t.a t.c in
    record {
      combines = cramer r d f g;
      time_is = λ D T v w h. time_is D T v w r d f g h;
      second_is = λ D T v w h. second_is D T v w r d f g h;
      third_is = λ D T v w h. third_is D T v w r d f g h;
    }

-- on one axis: a combination, negated
axis_neg : (D T v w r d f g : ℤ) → T *ℤ d ≡ D *ℤ r +ℤ v *ℤ f +ℤ w *ℤ g
    → neg_ℤ T *ℤ d ≡ neg_ℤ D *ℤ r +ℤ neg_ℤ v *ℤ f +ℤ neg_ℤ w *ℤ g
axis_neg D T v w r d f g e = omega (arith, linear, neg-times T d, neg-times D r, neg-times v f, neg-times w g)

-- equal ratios, with the second one's parts negated
both_neg : (T N D x : ℤ) → T *ℤ N ≡ D *ℤ x → T *ℤ neg_ℤ N ≡ D *ℤ neg_ℤ x
both_neg T N D x e = omega (arith, linear, times-neg T N, times-neg D x)

-- and so are their negations
pub negated_solve : (p q : Point) (t : Tri) (m : Shares) → Solves p q t m → Solves p q t (negated m)
unfolding negated
negated_solve p q t m h = record {
  combines = record {
    on_x = axis_neg m.whole m.time m.second m.third _ _ _ _ h.combines.on_x;
    on_y = axis_neg m.whole m.time m.second m.third _ _ _ _ h.combines.on_y;
    on_z = axis_neg m.whole m.time m.second m.third _ _ _ _ h.combines.on_z;
  };
  time_is = λ D T v w k. both_neg T m.whole D m.time (h.time_is D T v w k);
  second_is = λ D T v w k. both_neg v m.whole D m.second (h.second_is D T v w k);
  third_is = λ D T v w k. both_neg w m.whole D m.third (h.third_is D T v w k);
}

-- what is measured is the shares
measured : (p q : Point) (t : Tri) (m : Determinants) → AreDeterminantsOf p q t m → shares m ≡ shares_of p q t
unfolding shares_of
measured p q t m e = λ i. record { whole = e.whole i; time = e.time i; second = e.second i; third = e.third i }

-- and negations are their negations
turned : (m n : Determinants) → AreNegated m n → shares n ≡ negated (shares m)
unfolding negated
turned m n e = λ i. record { whole = e.whole i; time = e.time i; second = e.second i; third = e.third i }

-- so are the determinants with either sign
pub faced_solve : (p q : Point) (t : Tri) (m n : Determinants) → AreDeterminantsOf p q t m → (n ≡ m) ⊎ AreNegated m n
    → Solves p q t (shares n)
faced_solve p q t m n d h =
    let s : Solves p q t (shares m) = subst (Solves p q t) (sym (measured p q t m d)) (shares_solve p q t) in
    elim h [
      | inl e ↦ subst (λ (x : Determinants). Solves p q t (shares x)) (sym e) s
      | inr k ↦ subst (Solves p q t) (sym (turned m n k)) (negated_solve p q t (shares m) s)
    ]

-- where a whole of either sign is above 0, the segment is not parallel to the plane
pub faced_crosses : (p q : Point) (t : Tri) (m n : Determinants) → AreDeterminantsOf p q t m
    → (n ≡ m) ⊎ AreNegated m n →
    pos 0 <ℤ n.whole → whole_of p q t ≢ pos 0
faced_crosses p q t m n d h above = elim h [
  | inl e ↦ nonzero m.whole (whole_of p q t) d.whole (subst (λ (x : Determinants). pos 0 <ℤ x.whole) e above)
  | inr k ↦ negative n.whole m.whole (whole_of p q t) k.whole d.whole above
]
  where
    nonzero : (a b : ℤ) → a ≡ b → pos 0 <ℤ a → b ≢ pos 0
    nonzero a b e h = omega (arith, ints)

    negative : (a b c : ℤ) → a ≡ neg_ℤ b → b ≡ c → pos 0 <ℤ a → c ≢ pos 0
    negative a b c e f h = omega (arith, ints)

-- and where it is 0, the segment is parallel
pub faced_parallel : (p q : Point) (t : Tri) (m n : Determinants) → AreDeterminantsOf p q t m
    → (n ≡ m) ⊎ AreNegated m n →
    n.whole ≡ pos 0 → whole_of p q t ≡ pos 0
faced_parallel p q t m n d h zero = elim h [
  | inl e ↦ sym d.whole ∙ ap (λ (x : Determinants). x.whole) (sym e) ∙ zero
  | inr k ↦ negative n.whole m.whole (whole_of p q t) k.whole d.whole zero
]
  where
    negative : (a b c : ℤ) → a ≡ neg_ℤ b → b ≡ c → a ≡ pos 0 → c ≡ pos 0
    negative a b c e f h = omega (arith, ints)
