-- The frame over keys is a tree with batches of its live leaves.
use Rattle.std.proofs.Common.{◌≡◌, ℕ, suc, ◌+◌, ◌*◌, ◌-◌, ◌<◌, ◌≤◌, refl, sym, ap, ◌∙◌, arith, subst, length, take, drop, min, get_or}
use Rattle.std.specs.Prelude.{◌||◌, All, Some, None}
use Rattle.std.proofs.lemmas.List.{length-take, length-drop, get_or-take, get_or-drop}
use Rattle.fixed_box.proofs.LeastBoxes.{one_least_box}
use Rattle.fixed_box.proofs.Extents.{union_of-is_least}
use Rattle.radix_tree.proofs.NumberLaws.{proper, range_of_node}
use Rattle.radix_tree.proofs.NodeLaws.{node_within, split_high}
use Rattle.radix_tree.proofs.FitLaws.{least_of_children}
use Rattle.radix_tree.proofs.OneTable.{least_box_of-is_least}
use Rattle.arrival_core.specs.declared.packets.TheConstants.{BATCH}
use Rattle.arrival_core.specs.declared.packets.Packet.{Packet}
use Rattle.arrival_core.specs.declared.packets.Side.TheVariants.{Left, Right}
use Rattle.arrival_core.specs.declared.packets.Up.{Up}
use Rattle.arrival_core.specs.Frames.{live_at, packet_at}
use Rattle.arrival_core.specs.Frames.Below.{inner}
use Rattle.arrival_core.specs.Events.{join}
use Rattle.arrival_core.specs.FrameLaws.{IsFrame}
use Rattle.arrival_core.specs.Settings.{Setting, row_of, child_of, above, frame_of, batch_count}
use Rattle.arrival_core.specs.Tasks.{IsTask}
use Rattle.arrival_core.proofs.SplitNames.{row_of_is}
use Rattle.arrival_core.proofs.Parents.{above_of, above_whole, below_inner, inner_child}
use Rattle.arrival_core.proofs.Batches.{batched_once, batched_none, live_parted}
use Rattle.arrival_core.proofs.SplitRanges.{node_of, first_is, last_is, left_is, right_is, left_range, right_range, low, high, within, packet_of_range, live_of_range}
use Rattle.arrival_core.proofs.LeafSides.{leaf_child_is, leaf_node_is, at_leaf, at_inner}

-- packets with the same parts
packet_parts : (p q : Packet) → p.first ≡ q.first → p.last ≡ q.last → p.split ≡ q.split → p.fit ≡ q.fit → p ≡ q
packet_parts p q a b c d = rw (← a) (rw (← b) (rw (← c) (rw (← d) refl)))

module _ (x : Setting) (ok : IsTask x) where
  -- there is room for all live positions
  room : length x.live ≤ BATCH * (batch_count x.live)
  room = omega arith

  -- there is a batch
  some : 0 < batch_count x.live
  some = omega (arith, ok.some)

  -- batches hold positions
  positions_of : (j : ℕ) → All (λ p. p < suc (length x.keys - 1)) (take BATCH (drop (BATCH * j) x.live))
  positions_of j k d less =
      let long : length (take BATCH (drop (BATCH * j) x.live)) ≡ min BATCH (length x.live - BATCH * j)
      = length-take BATCH (drop (BATCH * j) x.live) ∙ ap (min BATCH) (length-drop (BATCH * j) x.live) in
      let at_it : get_or (take BATCH (drop (BATCH * j) x.live)) k d ≡ get_or x.live (BATCH * j + k) d
      = get_or-take BATCH (drop (BATCH * j) x.live) k d (omega (arith, long))
      ∙ get_or-drop (BATCH * j) x.live k d in
      let inside : get_or x.live (BATCH * j + k) d < length x.keys = ok.within (BATCH * j + k) d
      (omega (arith, long)) in
      rw at_it (omega (arith, inside))

  -- what is above a node
  node_above : (i : ℕ) (lt : i < length x.keys - 1) (u : Up) →
      above x.keys (row_of x.keys i).first (row_of x.keys i).last ≡ Some u →
      (suc u.split < length x.keys) × (child_of x.keys u.split u.side ≡ inner i)
  node_above i lt u h =
      let n = node_of x ok i lt in
      let h2 : above x.keys n.first n.last ≡ Some u = rw (sym (first_is x ok i lt)) (rw (sym (last_is x ok i lt)) h) in
      let a = above_of x.keys ok.lawful (range_of_node x.keys ok.lawful n.node)
      (λ z w. let none = above_whole x.keys ok.lawful n.first n.last z w in
      let wrong : None ≡ Some u = sym none ∙ h2 in cc) in
      let both : Some a.up ≡ Some u = sym a.found ∙ h2 in
      let same_up : a.up ≡ u = cc in
      let child : child_of x.keys a.up.split a.up.side ≡ inner i = a.child
      ∙ (below_inner x.keys ok.lawful n.first n.last (proper x.keys ok.lawful n.node) ∙ ap inner n.parts) in (
        subst (λ u. suc u.split < length x.keys) same_up a.node,
        subst (λ u. child_of x.keys u.split u.side ≡ inner i) same_up child,
      )

  -- the packet of a node is made of its children's
  packet_is : (t : ℕ) → t < length x.keys - 1 → (frame_of x).node_packet t
      ≡ join t Left (packet_at (frame_of x) t Left) (packet_at (frame_of x) t Right)
  unfolding frame_of packet_at
  packet_is t lt =
      let n = node_of x ok t lt in
      let l = packet_of_range x ok n.first t (left_range x ok t lt) in
      let r = packet_of_range x ok (suc t) n.last (right_range x ok t lt) in
      let whole_fit = least_of_children x.boxes x.keys n.first t n.last _ _ _ (low x ok t lt) (high x ok t lt) l.fit
      r.fit
      (union_of-is_least _ _) in
      rw (left_is x ok t lt) (rw (right_is x ok t lt) (packet_parts _ _
      (first_is x ok t lt ∙ sym l.first) (last_is x ok t lt ∙ sym r.last) refl
      (rw (first_is x ok t lt) (rw (last_is x ok t lt) (one_least_box _ _ _
      (least_box_of-is_least x.boxes x.keys n.first n.last (omega (arith, low x ok t lt, high x ok t lt))
      (omega (arith, low x ok t lt, high x ok t lt, within x ok t lt)))
      whole_fit)))))

  -- a node is live where a child is
  pub live_is : (t : ℕ) → t < length x.keys - 1 →
      (frame_of x).live_node t ≡ (live_at (frame_of x) t Left || live_at (frame_of x) t Right)
  unfolding frame_of live_at
  live_is t lt =
      let n = node_of x ok t lt in
      rw (left_is x ok t lt) (rw (right_is x ok t lt) (rw (live_of_range x ok n.first t (left_range x ok t lt))
      (rw (live_of_range x ok (suc t) n.last (right_range x ok t lt)) (rw (first_is x ok t lt) (rw (last_is x ok t lt)
      (live_parted x.live n.first t n.last (low x ok t lt) (high x ok t lt)))))))

  -- keys, boxes and live positions make a frame
  pub frame_lawful : IsFrame (frame_of x)
  unfolding frame_of
  frame_lawful = record {
    leaf_node = λ p le. omega (arith, leaf_node_is x ok p (omega (arith, ok.two)));
    leaf_child = λ p le. leaf_child_is x ok p (omega (arith, ok.two));
    up_node = λ i u lt h. omega (arith, (node_above i lt u h).0);
    up_child = λ i u lt h. (node_above i lt u h).1;
    child_node = λ t d i lt h.
        let c = inner_child x.keys ok.lawful t d i (omega arith) h in
        omega (arith, c.parts, split_high x.keys ok.lawful c.node, node_within x.keys ok.lawful c.node);
    child_up = λ t d i lt h.
        let c = inner_child x.keys ok.lawful t d i (omega arith) h in
        let row = ap (row_of x.keys) (sym c.parts) ∙ row_of_is x.keys ok.lawful c.node in
        let rf : (row_of x.keys i).first ≡ c.first = ap (λ r. r.first) row in
        let rl : (row_of x.keys i).last ≡ c.last = ap (λ r. r.last) row in
        rw rf (rw rl c.found);
    height = λ t. (row_of x.keys t).last - (row_of x.keys t).first;
    lower = λ t d i lt h.
        let c = inner_child x.keys ok.lawful t d i (omega arith) h in
        let row = ap (row_of x.keys) (sym c.parts) ∙ row_of_is x.keys ok.lawful c.node in
        let rf : (row_of x.keys i).first ≡ c.first = ap (λ r. r.first) row in
        let rl : (row_of x.keys i).last ≡ c.last = ap (λ r. r.last) row in
        omega (arith, rf, rl, c.shorter);
    packet = packet_is;
    live = live_is;
    some_batch = some;
    positions = λ j lt. positions_of j;
    batched_leaf = λ t d p lt h. batched_once (frame_of x) BATCH x.live t d p (batch_count x.live) room
        ok.rising
        (λ j z less. at_leaf x ok t d p _ lt h (ok.within j z less));
    batched_inner = λ t d i lt h. batched_none (frame_of x) BATCH x.live t d (batch_count x.live) room
        (λ j z less. at_inner x ok t d i _ h (ok.within j z less));
  }
