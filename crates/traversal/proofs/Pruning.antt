-- Why a walk may stop at a box that misses the query: a node's box contains all boxes of its range.
use Rattle.std.proofs.Common.{◌≡◌, ℕ, suc, ◌+◌, ◌-◌, ◌<◌, ◌≤◌, sym, ap, arith, inl, inr, subst, List, [], ◌∷◌, ◌++◌, length, map, true, false}
use Rattle.std.specs.Prelude.{All, slice_range}
use Rattle.std.proofs.lemmas.Bool.{cases_eq, false_from_ne_true, both_ways}
use Rattle.std.proofs.lemmas.List.Elements.{All-head, All-tail, All-nil, All-cons, All-weaker}
use Rattle.fixed_box.specs.declared.shapes.Box3.{Box3}
use Rattle.fixed_box.specs.Boxes.{Contains}
use Rattle.fixed_box.specs.Extent.{boxes_meet}
use Rattle.fixed_box.proofs.ByCorners.{meets_container}
use Rattle.fixed_box.proofs.MeetingTest.{boxes_meet_is}
use Rattle.morton_key.specs.declared.keys.Key.{Key}
use Rattle.morton_key.specs.Keys.{tri_at}
use Rattle.radix_tree.specs.Table.{Contents, node_at}
use Rattle.radix_tree.specs.Fit.{box_of_triangle, boxes_in, IsFitted}
use Rattle.radix_tree.proofs.FitLaws.{boxes_in-one, boxes_in-parted}
use Rattle.traversal.specs.Walks.{key_meets, met_in}
use Rattle.traversal.proofs.Counting.{filter-none}

-- what contains a box that meets the query meets it
pub container_meets : (outer inner q : Box3) → Contains outer inner → boxes_meet inner q ≡ true →
    boxes_meet outer q ≡ true
container_meets outer inner q h e =
    (boxes_meet_is outer q).1 (meets_container outer inner q h ((boxes_meet_is inner q).0 e))

-- what is contained in a box that misses the query misses it
pub contained_misses : (outer inner q : Box3) → Contains outer inner → boxes_meet outer q ≡ false →
    boxes_meet inner q ≡ false
contained_misses outer inner q h e =
    false_from_ne_true (boxes_meet inner q)
    (λ meets. both_ways (boxes_meet outer q) e (container_meets outer inner q h meets))

-- what is so of two lists together is so of the first
all_left : (P : Box3 → Type 0) (xs ys : List Box3) → All P (xs ++ ys) → All P xs
all_left P [] ys h = All-nil P
all_left P (x ∷ xs) ys h = All-cons P x xs (All-head P x (xs ++ ys) h) (all_left P xs ys (All-tail P x (xs ++ ys) h))

-- and of the second
all_right : (P : Box3 → Type 0) (xs ys : List Box3) → All P (xs ++ ys) → All P ys
all_right P [] ys h = h
all_right P (x ∷ xs) ys h = all_right P xs ys (All-tail P x (xs ++ ys) h)

-- what is so of the boxes of a range is so of those from a later position on
all_from : (P : Box3 → Type 0) (boxes : List Box3) (keys : List Key) (a p b : ℕ) → a ≤ p → p ≤ b →
    All P (boxes_in boxes keys a b) → All P (boxes_in boxes keys p b)
all_from P boxes keys a p b low high h = elim (cases_eq p a) [
  | inl e ↦ subst (λ z. All P (boxes_in boxes keys z b)) (sym e) h
  | inr ne ↦
      let before : ℕ = p - 1 in
      let next : suc before ≡ p = omega arith in
      let parts = subst (All P) (boxes_in-parted boxes keys a before b (omega arith) (omega arith)) h in
      subst (λ z. All P (boxes_in boxes keys z b)) next
      (all_right P (boxes_in boxes keys a before) (boxes_in boxes keys (suc before) b) parts)
]

-- and of those up to an earlier one
all_upto : (P : Box3 → Type 0) (boxes : List Box3) (keys : List Key) (a p b : ℕ) → a ≤ p → p ≤ b →
    All P (boxes_in boxes keys a b) → All P (boxes_in boxes keys a p)
all_upto P boxes keys a p b low high h = elim (cases_eq p b) [
  | inl e ↦ subst (λ z. All P (boxes_in boxes keys a z)) (sym e) h
  | inr ne ↦
      let parts = subst (All P) (boxes_in-parted boxes keys a p b low (omega arith)) h in
      all_left P (boxes_in boxes keys a p) (boxes_in boxes keys (suc p) b) parts
]

-- where all boxes of keys miss the query, so do their triangles
all_miss : (boxes : List Box3) (q : Box3) (keys : List Key) →
    All (λ x. boxes_meet x q ≡ false) (map (λ k. box_of_triangle boxes k.tri) keys) →
    All (λ k. key_meets boxes q k ≡ false) keys
unfolding key_meets
all_miss boxes q [] h = All-nil (λ k. boxes_meet (box_of_triangle boxes k.tri) q ≡ false)
all_miss boxes q (k ∷ ks) h = All-cons (λ z. boxes_meet (box_of_triangle boxes z.tri) q ≡ false) k ks
    (All-head (λ x. boxes_meet x q ≡ false) (box_of_triangle boxes k.tri) (map (λ z. box_of_triangle boxes z.tri) ks)
    h)
    (all_miss boxes q ks
    (All-tail (λ x. boxes_meet x q ≡ false) (box_of_triangle boxes k.tri)
    (map (λ z. box_of_triangle boxes z.tri) ks) h))

-- where all boxes of a range miss the query, no triangle of it is met
pub none_met : (boxes : List Box3) (q : Box3) (keys : List Key) (a b : ℕ) →
    All (λ x. boxes_meet x q ≡ false) (boxes_in boxes keys a b) → met_in keys boxes q a b ≡ []
unfolding met_in boxes_in
none_met boxes q keys a b h =
    let ks = slice_range keys a (b + 1) in
    ap (map (λ k. k.tri)) (filter-none (key_meets boxes q) ks (all_miss boxes q ks h))

module _ (t : Contents) (boxes : List Box3) (fitted : IsFitted t boxes) where
  -- the box of a node contains that of each node whose range lies in its own
  pub box_contains_below : (j k : ℕ) → j < length t.nodes → k < length t.nodes →
      (node_at t.nodes j).first ≤ (node_at t.nodes k).first →
      (node_at t.nodes k).first ≤ (node_at t.nodes k).last → (node_at t.nodes k).last ≤ (node_at t.nodes j).last →
      Contains (node_at t.nodes j).fit (node_at t.nodes k).fit
  box_contains_below j k inside lt low order high =
      let x = node_at t.nodes j in
      let y = node_at t.nodes k in
      let all = (fitted.each j inside).contains in
      (fitted.each k lt).least x.fit (all_upto (Contains x.fit) boxes t.keys y.first y.last x.last order high
      (all_from (Contains x.fit) boxes t.keys x.first y.first x.last low (omega arith) all))

  -- and the boxes of the triangles in its range
  pub box_contains_triangle : (k i : ℕ) → k < length t.nodes → (node_at t.nodes k).first ≤ i →
      i ≤ (node_at t.nodes k).last → i < length t.keys →
      Contains (node_at t.nodes k).fit (box_of_triangle boxes (tri_at t.keys i))
  box_contains_triangle k i lt low high within =
      let x = node_at t.nodes k in
      let P = Contains x.fit in
      let here = all_upto P boxes t.keys i i x.last (omega arith) high
      (all_from P boxes t.keys x.first i x.last low high (fitted.each k lt).contains) in
      All-head P (box_of_triangle boxes (tri_at t.keys i)) [] (subst (All P) (boxes_in-one boxes t.keys i within) here)

  -- below a node whose box misses the query no triangle is met
  pub missed_node_meets_none : (q : Box3) (k : ℕ) → k < length t.nodes → boxes_meet (node_at t.nodes k).fit q ≡ false →
      met_in t.keys boxes q (node_at t.nodes k).first (node_at t.nodes k).last ≡ []
  missed_node_meets_none q k lt misses =
      let x = node_at t.nodes k in
      none_met boxes q t.keys x.first x.last
      (All-weaker (Contains x.fit) (λ b. boxes_meet b q ≡ false) (λ b h. contained_misses x.fit b q h misses)
      (boxes_in boxes t.keys x.first x.last) (fitted.each k lt).contains)
