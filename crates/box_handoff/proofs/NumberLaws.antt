-- The numbers of live nodes.
use Rattle.std.proofs.Common.{◌≡◌, ◌≢◌, ℕ, zero, suc, ◌+◌, ◌<◌, ◌≤◌, ⊎_elim, inl, inr, Bool, true, false, List, [], ◌∷◌, length, get_or, sym, refl, ap, ◌∙◌, subst, arith, eq-eqb, ne_eqb, Option, Some, None}
use Rattle.std.specs.Prelude.{slice_index, if◌then◌else◌, AllPairs, nat_lt}
use Rattle.std.specs.List.Sorted.{IsPartitionPoint}
use Rattle.std.proofs.lemmas.Bool.{cases_eq, cases_order, ltb-true, ltb-false}
use Rattle.arrival_core.specs.Frames.{Frame}
use Rattle.box_handoff.specs.declared.views.Given.{Given}
use Rattle.box_handoff.specs.declared.views.About.{About}
use Rattle.box_handoff.specs.LiveNodes.{Shown, AreSpots, splits_of}
use Rattle.box_handoff.specs.Entries.{IsGiven, IsNumbered, frame, given_of, numbers, numbers_in, place_in}
use Rattle.box_handoff.specs.Climbs.{IsPlace}
use Rattle.box_handoff.proofs.SplitLists.{Has, splits_rise, splits_have, splits_short, splits_all, listed_shown}

-- where a number stands in a list
place_here : (x : ℕ) (xs : List ℕ) (t : ℕ) → x ≡ t → place_in (x ∷ xs) t ≡ 0
unfolding place_in
place_here x xs t e = ap (λ (b : Bool). if b then 0 else suc (place_in xs t)) (eq-eqb x t e)

-- it is not at the head
place_else : (x : ℕ) (xs : List ℕ) (t : ℕ) → x ≢ t → place_in (x ∷ xs) t ≡ suc (place_in xs t)
unfolding place_in
place_else x xs t n = ap (λ (b : Bool). if b then 0 else suc (place_in xs t)) (ne_eqb x t n)

-- what stands at the place of a number is that
pub at_place : (xs : List ℕ) (t : ℕ) → place_in xs t < length xs → slice_index xs (place_in xs t) ≡ t
at_place [] t h = absurd (omega arith)
at_place (x ∷ xs) t h = ⊎_elim
    (λ (e : x ≡ t). ap (λ (n : ℕ). slice_index (x ∷ xs) n) (place_here x xs t e) ∙ e)
    (λ (n : x ≢ t). let p = place_else x xs t n in ap (λ (k : ℕ). slice_index (x ∷ xs) k) p
    ∙ at_place xs t (let z : place_in xs t < length xs = omega arith in z)) (cases_eq x t)

-- the tail of a list that rises rises
rising_tail : (x : ℕ) (xs : List ℕ) → AllPairs (λ p q. p < q) (x ∷ xs) → AllPairs (λ p q. p < q) xs
rising_tail x xs rising i j d less lt = rising (suc i) (suc j) d (omega (arith, less)) (omega (arith, lt))

-- the place of what stands at a place of a list that rises
pub place_at : (xs : List ℕ) → AllPairs (λ p q. p < q) xs → (i : ℕ) → i < length xs →
    place_in xs (slice_index xs i) ≡ i
place_at [] rising i h = absurd (omega arith)
place_at (x ∷ xs) rising zero h = place_here x xs x refl
place_at (x ∷ xs) rising (suc i) h =
    let less : x < slice_index xs i = rising 0 (suc i) 0 (omega arith) h in
    place_else x xs (slice_index xs i) (λ e. omega (arith, e, less))
    ∙ ap suc (place_at xs (rising_tail x xs rising) i (let z : i < length xs = omega arith in z))

-- a partition at a number that a list has is at its place
pub partition_place : (xs : List ℕ) (t at : ℕ) → AllPairs (λ p q. p < q) xs → place_in xs t < length xs →
    IsPartitionPoint (λ q. nat_lt q t ≡ true) (λ q. nat_lt q t ≡ false) xs at → at ≡ place_in xs t
partition_place xs t at rising there point = elim (cases_order at (place_in xs t)) [
  | inl e ↦ e
  | inr (inl low) ↦
      let here = at_place xs t there in
      let least = ltb-false (get_or xs at 0) t (point.1 at 0 (omega arith) (omega (arith, low, there))) in
      let less : get_or xs at 0 < get_or xs (place_in xs t) 0 = rising at (place_in xs t) 0 low there in
      absurd (omega (arith, here, least, less))
  | inr (inr high) ↦
      let here = at_place xs t there in
      let below = ltb-true (get_or xs (place_in xs t) 0) t (point.0 (place_in xs t) 0 (omega arith) high) in
      absurd (omega (arith, here, below))
]

module _ (f : Frame) where
  -- a live node's split is listed
  have : (t : ℕ) → Shown f t → Has (splits_of f) t
  have t l = splits_have f 0 f.nodes t (omega arith) (let z = l.0 in omega arith) l.1

  -- where it was found
  place : (t : ℕ) (l : Shown f t) → place_in (splits_of f) t ≡ (have t l).0
  place t l = ap (place_in (splits_of f)) (sym (have t l).2)
      ∙ place_at (splits_of f) (splits_rise f 0 f.nodes) (have t l).0 (have t l).1

  -- of two live splits the greater has the greater number
  listed_rise : (s t : ℕ) (hs : Has (splits_of f) s) (ht : Has (splits_of f) t) → s < t →
      place_in (splits_of f) s ≡ hs.0 → place_in (splits_of f) t ≡ ht.0 →
      place_in (splits_of f) s < place_in (splits_of f) t
  listed_rise s t hs ht less es et = elim (cases_order hs.0 ht.0) [
    | inl e ↦
        let z : s ≡ t = sym hs.2 ∙ ap (λ (n : ℕ). slice_index (splits_of f) n) e ∙ ht.2 in
        absurd (omega (arith, z, less))
    | inr (inl low) ↦ omega (arith, es, et, low)
    | inr (inr high) ↦
        let z : slice_index (splits_of f) ht.0 < slice_index (splits_of f) hs.0
        = splits_rise f 0 f.nodes ht.0 hs.0 0 high hs.1 in
        let a = hs.2 in
        let b = ht.2 in
        absurd (omega (arith, z, a, b, less))
  ]

  -- each live node has its place in the list for a number
  listed_numbered : IsNumbered f (numbers_in f.nodes (Some (splits_of f)))
  unfolding numbers_in
  listed_numbered = record {
    within = λ t l. subst (λ (n : ℕ). n < length (splits_of f)) (sym (place t l)) (have t l).1;
    apart = λ s t ls lt e. sym (have s ls).2
        ∙ ap (λ (n : ℕ). slice_index (splits_of f) n) (sym (place s ls) ∙ e ∙ place t lt) ∙ (have t lt).2;
    rising = λ s t ls lt less. listed_rise s t (have s ls) (have t lt) less (place s ls) (place t lt);
    each = λ i l. (
      slice_index (splits_of f) i,
      listed_shown f i l,
      place_at (splits_of f) (splits_rise f 0 f.nodes) i l,
    );
  }

  -- each live node has a number of its own
  numbered_so : (o : Option (List ℕ)) → AreSpots f o → IsNumbered f (numbers_in f.nodes o)
  unfolding numbers_in
  numbered_so None all = record { within = λ t l. l.0; apart = λ s t ls lt e. e; rising = λ s t ls lt less. less; each = λ i l. (i, (l, all i l), refl) }
  numbered_so (Some xs) is = subst (λ (l : List ℕ). IsNumbered f (numbers_in f.nodes (Some l))) (sym is) listed_numbered

  -- there are as many as live splits
  counted_so : (o : Option (List ℕ)) → AreSpots f o → (numbers_in f.nodes o).count ≡ length (splits_of f)
  unfolding numbers_in
  counted_so None all = sym (splits_all f 0 f.nodes (λ t l u. all t (omega (arith, u)))).0
  counted_so (Some xs) is = ap (λ (l : List ℕ). length l) is

  -- the node of a number has the split of that place
  listed_so : (o : Option (List ℕ)) → AreSpots f o → (i : ℕ) → i < length (splits_of f) →
      (numbers_in f.nodes o).number (slice_index (splits_of f) i) ≡ i
  unfolding numbers_in
  listed_so None all i l =
      let s = splits_all f 0 f.nodes (λ t l u. all t (omega (arith, u))) in
      s.1 i (omega (arith, s.0, l)) ∙ (let z : 0 + i ≡ i = omega arith in z)
  listed_so (Some xs) is i l = ap (λ (x : List ℕ). place_in x (slice_index (splits_of f) i)) is
      ∙ place_at (splits_of f) (splits_rise f 0 f.nodes) i l

module _ (g : Given) (ok : IsGiven g) where
  -- the numbers of live nodes are places in their list, each node's own
  pub numbered : IsNumbered (frame g) (numbers g)
  unfolding numbers
  numbered = numbered_so (frame g) g.spots ok.spots

  -- there are as many as live nodes
  pub counted : (numbers g).count ≡ length (splits_of (frame g))
  unfolding numbers
  counted = counted_so (frame g) g.spots ok.spots

  -- no more than there are inner nodes
  pub count_low : (numbers g).count ≤ (frame g).nodes
  count_low = let s = splits_short (frame g) 0 (frame g).nodes in omega (arith, counted, s)

  -- the split at a place of the list has that number
  pub listed : (i : ℕ) → i < length (splits_of (frame g)) → (numbers g).number (slice_index (splits_of (frame g)) i) ≡ i
  unfolding numbers
  listed = listed_so (frame g) g.spots ok.spots

  -- a live node's place
  pub place_is : (split at : ℕ) → Shown (frame g) split → at ≡ (numbers g).number split → IsPlace g at split
  place_is split at seen is = record {
    seen = seen;
    number = is;
    within = subst (λ (n : ℕ). n < (numbers g).count) (sym is) (numbered.within split seen);
  }

  -- with no list
  pub count_none : g.spots ≡ None → (numbers g).count ≡ (frame g).nodes
  unfolding numbers numbers_in
  count_none e = ap (λ (o : Option (List ℕ)). (numbers_in (frame g).nodes o).count) e

  -- a node's number is its split
  pub number_none : (t : ℕ) → g.spots ≡ None → t ≡ (numbers g).number t
  unfolding numbers numbers_in
  number_none t e = sym (ap (λ (o : Option (List ℕ)). (numbers_in (frame g).nodes o).number t) e)

  -- and every split is live, at its own place
  pub spot_none : g.spots ≡ None → (i : ℕ) → i < (numbers g).count → i ≡ slice_index (splits_of (frame g)) i
  spot_none e i l =
      let all : AreSpots (frame g) None = subst (AreSpots (frame g)) e ok.spots in
      let n = count_none e in
      let s = (splits_all (frame g) 0 (frame g).nodes (λ t l u. all t (omega (arith, u)))).1 i (omega (arith, n, l)) in
      omega (arith, s)

  -- with one
  module _ (xs : List ℕ) (e : g.spots ≡ Some xs) where
    -- it is the list of live splits
    pub spots_are : xs ≡ splits_of (frame g)
    spots_are = subst (AreSpots (frame g)) e ok.spots

    -- its length is the count
    pub count_some : (numbers g).count ≡ length xs
    unfolding numbers numbers_in
    count_some = ap (λ (o : Option (List ℕ)). (numbers_in (frame g).nodes o).count) e

    -- a node's number is where its split is found
    pub number_some : (t : ℕ) → place_in xs t ≡ (numbers g).number t
    unfolding numbers numbers_in
    number_some t = sym (ap (λ (o : Option (List ℕ)). (numbers_in (frame g).nodes o).number t) e)

    -- it rises
    pub rising_some : AllPairs (λ p q. p < q) xs
    rising_some = subst (AllPairs (λ p q. p < q)) (sym spots_are) (splits_rise (frame g) 0 (frame g).nodes)

    -- a live node's split is in it
    pub there_some : (t : ℕ) → Shown (frame g) t → place_in xs t < length xs
    there_some t seen = let w = numbered.within t seen in omega (arith, w, count_some, number_some t)

-- the same place, by the table's key
pub place_there : (a b : About) (at split : ℕ) → a ≡ b → IsPlace (given_of b) at split → IsPlace (given_of a) at split
place_there a b at split e h = subst (λ (x : About). IsPlace (given_of x) at split) (sym e) h
