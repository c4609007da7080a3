-- The least box round points or boxes: it is one, its corners are the least and the greatest, and boxes join by lists.
use mathlib.Core.HLevel.{is_prop→PathP}
use Rattle.std.proofs.Common.{◌≡◌, ◌≤ℤ◌, List, [], ◌∷◌, ◌++◌, All, subst, sym}
use Rattle.std.proofs.Math.Dec.{T_prop}
use Rattle.std.proofs.lemmas.List.Elements.{All-nil, All-cons, All-head, All-tail, All-append, All-weaker}
use Rattle.fixed_box.specs.declared.shapes.Point.{Point}
use Rattle.fixed_box.specs.declared.shapes.Box3.{Box3}
use Rattle.fixed_box.specs.Boxes.{Holds, Contains, IsLeastHolding, IsLeastBox}
use Rattle.fixed_box.specs.Corners.{IsAtMost}
use Rattle.fixed_box.proofs.Order.{IsLesser, IsGreater, at_most_trans, at_most_antisym, lesser_first, lesser_second, lesser_greatest, greater_first, greater_second, greater_least}
use Rattle.fixed_box.proofs.ByCorners.{rises, holds, holds_low, holds_high, contains_by_corners, contains_refl, contains_trans}

-- boxes with equal corners are equal
pub same_box : (a b : Box3) → a.lo ≡ b.lo → a.hi ≡ b.hi → a ≡ b
same_box a b l h = λ i. record {
  lo = l i;
  hi = h i;
  x_rises = is_prop→PathP (λ j. (l j).x ≤ℤ (h j).x) (λ j. hlevel T_prop) a.x_rises b.x_rises i;
  y_rises = is_prop→PathP (λ j. (l j).y ≤ℤ (h j).y) (λ j. hlevel T_prop) a.y_rises b.y_rises i;
  z_rises = is_prop→PathP (λ j. (l j).z ≤ℤ (h j).z) (λ j. hlevel T_prop) a.z_rises b.z_rises i;
}

-- two boxes that contain each other are equal
pub contains_antisym : (a b : Box3) → Contains a b → Contains b a → a ≡ b
contains_antisym a b h k =
    let v = (contains_by_corners a b).0 h in
    let w = (contains_by_corners b a).0 k in
    same_box a b (at_most_antisym a.lo b.lo v.low w.low) (at_most_antisym a.hi b.hi w.high v.high)

-- the least box round boxes is one
pub one_least_box : (boxes : List Box3) (a b : Box3) → IsLeastBox boxes a → IsLeastBox boxes b → a ≡ b
one_least_box boxes a b h k = contains_antisym a b (k.least a h.contains) (h.least b k.contains)

-- the least box round points is one
pub one_least_holding : (points : List Point) (a b : Box3) → IsLeastHolding points a → IsLeastHolding points b → a ≡ b
one_least_holding points a b h k = contains_antisym a b (k.least a h.holds) (h.least b k.holds)

-- the box between the lesser and the greater coordinates of two points is their least box
pub least_of_corners : (p q : Point) (b : Box3) → IsLesser p q b.lo → IsGreater p q b.hi → IsLeastHolding (p ∷ q ∷ []) b
least_of_corners p q b l g = record {
  holds = All-cons (Holds b) p (q ∷ []) (holds b p (lesser_first p q b.lo l) (greater_first p q b.hi g))
      (All-cons (Holds b) q [] (holds b q (lesser_second p q b.lo l) (greater_second p q b.hi g)) (All-nil (Holds b)));
  least = λ c h.
      let first = All-head (Holds c) p (q ∷ []) h in
      let second = All-head (Holds c) q [] (All-tail (Holds c) p (q ∷ []) h) in
      (contains_by_corners c b).1 (record {
        low = lesser_greatest p q b.lo c.lo l (holds_low c p first) (holds_low c q second);
        high = greater_least p q b.hi c.hi g (holds_high c p first) (holds_high c q second);
      });
}

-- to hold three points is to contain the least box of two of them and to hold the third
pub least_of_three : (p q r l g : Point) (b : Box3) → IsLesser p q l → IsLesser l r b.lo → IsGreater p q g →
    IsGreater g r b.hi → IsLeastHolding (p ∷ q ∷ r ∷ []) b
least_of_three p q r l g b l1 l2 g1 g2 = record {
  holds =
      let lo = lesser_first l r b.lo l2 in
      let hi = greater_first g r b.hi g2 in
      All-cons (Holds b) p (q ∷ r ∷ [])
      (holds b p (at_most_trans b.lo l p lo (lesser_first p q l l1))
      (at_most_trans p g b.hi (greater_first p q g g1) hi))
      (All-cons (Holds b) q (r ∷ [])
      (holds b q (at_most_trans b.lo l q lo (lesser_second p q l l1))
      (at_most_trans q g b.hi (greater_second p q g g1) hi))
      (All-cons (Holds b) r []
      (holds b r (lesser_second l r b.lo l2) (greater_second g r b.hi g2)) (All-nil (Holds b))));
  least = λ c h.
      let rest = All-tail (Holds c) p (q ∷ r ∷ []) h in
      let first = All-head (Holds c) p (q ∷ r ∷ []) h in
      let second = All-head (Holds c) q (r ∷ []) rest in
      let third = All-head (Holds c) r [] (All-tail (Holds c) q (r ∷ []) rest) in
      (contains_by_corners c b).1 (record {
        low = lesser_greatest l r b.lo c.lo l2
            (lesser_greatest p q l c.lo l1 (holds_low c p first) (holds_low c q second)) (holds_low c r third);
        high = greater_least g r b.hi c.hi g2
            (greater_least p q g c.hi g1 (holds_high c p first) (holds_high c q second)) (holds_high c r third);
      });
}

-- a box contains both of a list of two
pub both : (c a b : Box3) → Contains c a → Contains c b → All (Contains c) (a ∷ b ∷ [])
both c a b h k = All-cons (Contains c) a (b ∷ []) h (All-cons (Contains c) b [] k (All-nil (Contains c)))

-- the first of a list of two is contained
pub contains_first : (c a b : Box3) → All (Contains c) (a ∷ b ∷ []) → Contains c a
contains_first c a b h = All-head (Contains c) a (b ∷ []) h

-- the second of a list of two is contained
pub contains_second : (c a b : Box3) → All (Contains c) (a ∷ b ∷ []) → Contains c b
contains_second c a b h = All-head (Contains c) b [] (All-tail (Contains c) a (b ∷ []) h)

-- the box between the lesser first corner and the greater last corner is the least box of two
pub least_of_two : (a b c : Box3) → IsLesser a.lo b.lo c.lo → IsGreater a.hi b.hi c.hi → IsLeastBox (a ∷ b ∷ []) c
least_of_two a b c l g = record {
  contains = both c a b
      ((contains_by_corners c a).1 (record {
        low = lesser_first a.lo b.lo c.lo l;
        high = greater_first a.hi b.hi c.hi g;
      }))
      ((contains_by_corners c b).1 (record {
        low = lesser_second a.lo b.lo c.lo l;
        high = greater_second a.hi b.hi c.hi g;
      }));
  least = λ d h.
      let v = (contains_by_corners d a).0 (contains_first d a b h) in
      let w = (contains_by_corners d b).0 (contains_second d a b h) in
      (contains_by_corners d c).1 (record {
        low = lesser_greatest a.lo b.lo c.lo d.lo l v.low w.low;
        high = greater_least a.hi b.hi c.hi d.hi g v.high w.high;
      });
}

-- the least box of one box is that box
pub least_of_one : (b : Box3) → IsLeastBox (b ∷ []) b
least_of_one b = record {
  contains = All-cons (Contains b) b [] (contains_refl b) (All-nil (Contains b));
  least = λ c h. All-head (Contains c) b [] h;
}

-- what holds of each of two lists together holds of each of the first
all_left : {X : Type 0} (P : X → Type 0) (xs ys : List X) → All P (xs ++ ys) → All P xs
all_left P [] ys h = All-nil P
all_left P (x ∷ xs) ys h = All-cons P x xs (All-head P x (xs ++ ys) h) (all_left P xs ys (All-tail P x (xs ++ ys) h))

-- and of each of the second
all_right : {X : Type 0} (P : X → Type 0) (xs ys : List X) → All P (xs ++ ys) → All P ys
all_right P [] ys h = h
all_right P (x ∷ xs) ys h = all_right P xs ys (All-tail P x (xs ++ ys) h)

-- the least box of two lists together is the least box of their two least boxes
pub least_of_append : (xs ys : List Box3) (a b c : Box3) → IsLeastBox xs a → IsLeastBox ys b →
    IsLeastBox (a ∷ b ∷ []) c → IsLeastBox (xs ++ ys) c
least_of_append xs ys a b c h k m = record {
  contains =
      let ca = contains_first c a b m.contains in
      let cb = contains_second c a b m.contains in
      All-append (Contains c) xs ys
      (All-weaker (Contains a) (Contains c) (λ x v. contains_trans c a x ca v) xs h.contains)
      (All-weaker (Contains b) (Contains c) (λ x v. contains_trans c b x cb v) ys k.contains);
  least = λ d v. m.least d
      (both d a b (h.least d (all_left (Contains d) xs ys v)) (k.least d (all_right (Contains d) xs ys v)));
}

-- the lesser first corner of two boxes is at most the greater last corner
pub rises_joined : (a b : Box3) (l g : Point) → IsLesser a.lo b.lo l → IsGreater a.hi b.hi g → IsAtMost l g
rises_joined a b l g h k =
    at_most_trans l a.lo g (lesser_first a.lo b.lo l h)
    (at_most_trans a.lo a.hi g (rises a) (greater_first a.hi b.hi g k))

-- `least_of_corners` for a box whose corners are known by equations
pub least_of_corners_at : (p q : Point) (b : Box3) (l g : Point) → b.lo ≡ l → b.hi ≡ g → IsLesser p q l →
    IsGreater p q g → IsLeastHolding (p ∷ q ∷ []) b
least_of_corners_at p q b l g e f h k = least_of_corners p q b (subst (IsLesser p q) (sym e) h)
    (subst (IsGreater p q) (sym f) k)

-- `least_of_two` for a box whose corners are known by equations
pub least_of_two_at : (a b c : Box3) (l g : Point) → c.lo ≡ l → c.hi ≡ g → IsLesser a.lo b.lo l →
    IsGreater a.hi b.hi g → IsLeastBox (a ∷ b ∷ []) c
least_of_two_at a b c l g e f h k = least_of_two a b c (subst (IsLesser a.lo b.lo) (sym e) h)
    (subst (IsGreater a.hi b.hi) (sym f) k)

-- the least coordinates of three points are at most the greatest
pub rises_round_three : (p q r l m g h : Point) → IsLesser p q l → IsLesser l r m → IsGreater p q g →
    IsGreater g r h → IsAtMost m h
rises_round_three p q r l m g h a b c d = at_most_trans m r h (lesser_second l r m b) (greater_second g r h d)

-- `least_of_three` for a box whose corners are known by equations
pub least_of_three_at : (p q r : Point) (b : Box3) (l m g h : Point) → b.lo ≡ m → b.hi ≡ h →
    IsLesser p q l → IsLesser l r m → IsGreater p q g → IsGreater g r h → IsLeastHolding (p ∷ q ∷ r ∷ []) b
least_of_three_at p q r b l m g h e f i j k n =
    least_of_three p q r l g b i (subst (IsLesser l r) (sym e) j) k (subst (IsGreater g r) (sym f) n)
