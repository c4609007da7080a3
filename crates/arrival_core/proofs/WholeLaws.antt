-- Where every position is live: the task, the live children and nodes, and what a climb rests on.
use Rattle.std.proofs.Common.{◌≡◌, ℕ, suc, ◌+◌, ◌*◌, ◌<◌, ◌≤◌, true, refl, sym, ap, ◌∙◌, arith, inl, inr, subst, List, length, get_or}
use Rattle.std.specs.Prelude.{◌&&◌, nat_le, Some}
use Rattle.std.proofs.lemmas.Bool.{cases_eq, le-leb}
use Rattle.std.proofs.lemmas.List.Folds.{list_any_at}
use Rattle.std.proofs.lemmas.List.{get_or_default}
use Rattle.arrival_core.specs.declared.packets.Side.{Side}
use Rattle.arrival_core.specs.declared.packets.Side.TheVariants.{Left, Right}
use Rattle.arrival_core.specs.declared.packets.Up.{Up}
use Rattle.arrival_core.specs.Sums.{bit}
use Rattle.arrival_core.specs.Frames.{live_at, packet_at}
use Rattle.arrival_core.specs.Settings.{Setting, above, up_or, above_leaf_of, live_in, frame_of}
use Rattle.arrival_core.specs.Tasks.{IsTask, IsWhole}
use Rattle.arrival_core.specs.Complete.{live_children, live_nodes}
use Rattle.arrival_core.proofs.PutLaws.{bit-true}
use Rattle.arrival_core.proofs.SumLaws.{sum_same}
use Rattle.arrival_core.proofs.SumLaws.{sum_of_same}
use Rattle.arrival_core.proofs.Batches.{live_parted}
use Rattle.arrival_core.proofs.SplitNames.{leaf_range}
use Rattle.arrival_core.proofs.Parents.{above_of}
use Rattle.arrival_core.proofs.SplitRanges.{first_is, last_is, left_is, right_is, left_range, right_range, low, high, within, packet_of_range, live_of_range}

-- a range is live where its first position is
live_from : (live : List ℕ) (a b : ℕ) → a ≤ b → live_in live a a ≡ true → live_in live a b ≡ true
live_from live a b le on = elim (cases_eq a b) [
  | inl e ↦ subst (λ z. live_in live a z ≡ true) e on
  | inr ne ↦ live_parted live a a b (omega arith) (omega arith) ∙ rw on refl
]

module _ (x : Setting) (ok : IsWhole x) where
  -- the live position of a number is that number
  index : (p d : ℕ) → p < length x.live → get_or x.live p d ≡ p
  index p d lt = get_or_default x.live p d 0 lt ∙ ok.live_is p lt

  -- all positions, in order, are a task
  pub whole_task : IsTask x
  whole_task = record {
    lawful = ok.lawful;
    two = ok.two;
    boxes_count = ok.boxes_count;
    within = λ p d lt. let i = index p d lt in let n = ok.live_count in subst (λ z. z < length x.keys) (sym i)
        (omega (arith, n, lt));
    rising = λ i j d less lt.
        let a = index i d (omega (arith, less, lt)) in
        let b = index j d lt in
        subst (λ z. z < get_or x.live j d) (sym a) (subst (λ z. i < z) (sym b) less);
    some = omega (arith, ok.live_count, ok.two);
    one_worker = ok.one_worker;
  }

  -- each position is live
  pub live_here : (p : ℕ) → p < length x.keys → live_in x.live p p ≡ true
  unfolding live_in
  live_here p lt =
      let less : p < length x.live = omega (arith, ok.live_count, lt) in
      let is = index p 0 less in
      list_any_at (λ q. nat_le p q && nat_le q p) x.live p 0 less
      (rw is (rw (le-leb p p (omega arith)) refl))

  -- each child is live
  pub all_live : (t : ℕ) (d : Side) → t < (frame_of x).nodes → live_at (frame_of x) t d ≡ true
  unfolding frame_of live_at
  all_live t Left lt =
      let l = low x whole_task t lt in
      let n = within x whole_task t lt in
      let h = high x whole_task t lt in
      rw (left_is x whole_task t lt) (live_of_range x whole_task _ t (left_range x whole_task t lt)
      ∙ live_from x.live _ t l (live_here _ (omega (arith, l, n, h))))
  all_live t Right lt =
      let n = within x whole_task t lt in
      let h = high x whole_task t lt in
      rw (right_is x whole_task t lt) (live_of_range x whole_task (suc t) _ (right_range x whole_task t lt)
      ∙ live_from x.live (suc t) _ (omega (arith, h)) (live_here (suc t) (omega (arith, n, h))))

  -- each inner node is live
  pub all_live_nodes : (t : ℕ) → t < (frame_of x).nodes → (frame_of x).live_node t ≡ true
  unfolding frame_of
  all_live_nodes t lt =
      let l = low x whole_task t lt in
      let n = within x whole_task t lt in
      let h = high x whole_task t lt in
      rw (first_is x whole_task t lt) (rw (last_is x whole_task t lt)
      (live_from x.live _ _ (omega (arith, l, h)) (live_here _ (omega (arith, l, n, h)))))

  -- so many children and inner nodes are live
  pub live_nodes_is : live_nodes (frame_of x) ≡ (frame_of x).nodes
  unfolding live_nodes
  live_nodes_is =
      let same = sum_same (frame_of x).nodes (λ t. bit ((frame_of x).live_node t)) (λ t. 1)
      (λ t lt. bit-true (all_live_nodes t lt)) in
      omega (arith, same, sum_of_same (frame_of x).nodes 1)

  -- and so many children
  pub live_children_is : live_children (frame_of x) ≡ 2 * (frame_of x).nodes
  unfolding live_children
  live_children_is =
      let same = sum_same (frame_of x).nodes
      (λ t. bit (live_at (frame_of x) t Left) + bit (live_at (frame_of x) t Right)) (λ t. 2)
      (λ t lt. let a = bit-true (all_live t Left lt) in let b = bit-true (all_live t Right lt) in
      omega (arith, a, b)) in
      omega (arith, same, sum_of_same (frame_of x).nodes 2)

-- what a climb rests on, over any task
module _ (x : Setting) (ok : IsTask x) where
  -- something stands above each leaf
  pub leaf_above : (p : ℕ) → p < suc (frame_of x).nodes →
      (u : Up) × (above x.keys p p ≡ Some u) × ((frame_of x).above_leaf p ≡ u)
  unfolding frame_of above_leaf_of up_or
  leaf_above p lt =
      let a = above_of x.keys ok.lawful (leaf_range x.keys ok.lawful p (omega (arith, ok.two, lt)))
      (λ z w. absurd (omega (arith, z, w, ok.two))) in
      (a.up, a.found, ap up_or a.found)

  -- the left child ends before the right one
  pub children_end : (t : ℕ) → t < (frame_of x).nodes →
      (packet_at (frame_of x) t Left).last < (packet_at (frame_of x) t Right).last
  unfolding frame_of packet_at
  children_end t lt =
      let l = packet_of_range x ok _ t (left_range x ok t lt) in
      let r = packet_of_range x ok (suc t) _ (right_range x ok t lt) in
      rw (left_is x ok t lt) (rw (right_is x ok t lt) (omega (arith, l.last, r.last, high x ok t lt)))

  -- and begins before it
  pub children_begin : (t : ℕ) → t < (frame_of x).nodes →
      (packet_at (frame_of x) t Left).first < (packet_at (frame_of x) t Right).first
  unfolding frame_of packet_at
  children_begin t lt =
      let l = packet_of_range x ok _ t (left_range x ok t lt) in
      let r = packet_of_range x ok (suc t) _ (right_range x ok t lt) in
      rw (left_is x ok t lt) (rw (right_is x ok t lt) (omega (arith, l.first, r.first, low x ok t lt)))

  -- both end within the tree
  pub children_within : (t : ℕ) (d : Side) → t < (frame_of x).nodes →
      (packet_at (frame_of x) t d).last ≤ (frame_of x).nodes
  unfolding frame_of packet_at
  children_within t Left lt =
      let l = packet_of_range x ok _ t (left_range x ok t lt) in
      rw (left_is x ok t lt) (omega (arith, l.last, lt))
  children_within t Right lt =
      let r = packet_of_range x ok (suc t) _ (right_range x ok t lt) in
      rw (right_is x ok t lt) (omega (arith, r.last, within x ok t lt))
