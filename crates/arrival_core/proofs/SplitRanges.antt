-- What a split and a range of keys are in the frame: a row, two children, a packet.
use Rattle.std.proofs.Common.{◌≡◌, ℕ, suc, ◌-◌, ◌<◌, ◌≤◌, refl, sym, ap, ◌∙◌, arith, inl, inr, subst, List, length}
use Rattle.std.proofs.lemmas.Bool.{cases_eq}
use Rattle.fixed_box.specs.declared.shapes.Box3.{Box3}
use Rattle.fixed_box.specs.Boxes.{IsLeastBox}
use Rattle.morton_key.specs.declared.keys.Key.{Key}
use Rattle.radix_tree.specs.Split.{split}
use Rattle.radix_tree.specs.Ranges.{IsRange}
use Rattle.radix_tree.specs.Fit.{boxes_in}
use Rattle.radix_tree.proofs.RangeLaws.{range_laws}
use Rattle.radix_tree.proofs.NumberLaws.{proper, range_of_node}
use Rattle.radix_tree.proofs.NodeLaws.{node_within, split_low, split_high}
use Rattle.radix_tree.proofs.FitLaws.{least_of_leaf}
use Rattle.radix_tree.proofs.OneTable.{least_box_of-is_least}
use Rattle.radix_tree.specs.Ranges.IsRange.{left, right}
use Rattle.arrival_core.specs.declared.packets.Packet.{Packet}
use Rattle.arrival_core.specs.declared.packets.Side.TheVariants.{Left, Right}
use Rattle.arrival_core.specs.Frames.{live_below, packet_below}
use Rattle.arrival_core.specs.Settings.{Setting, row_of, below, child_of, live_in, frame_of}
use Rattle.arrival_core.specs.Tasks.{IsTask}
use Rattle.arrival_core.proofs.SplitNames.{Named, named, row_of_is}
use Rattle.arrival_core.proofs.Parents.{range_node, child_left, child_right, below_leaf, below_inner}

-- what the packet of a range is
pub record IsPacketOf (boxes : List Box3) (keys : List Key) (a b : ℕ) (p : Packet) : Type 0 where
  pub first : p.first ≡ a
  pub last : p.last ≡ b
  pub fit : IsLeastBox (boxes_in boxes keys a b) p.fit

module _ (x : Setting) (ok : IsTask x) where
  -- a node by its split
  pub node_of : (t : ℕ) → t < length x.keys - 1 → Named x.keys ok.lawful t
  node_of t lt = named x.keys ok.lawful t (omega arith)

  module _ (t : ℕ) (lt : t < length x.keys - 1) where
    -- its row has its number, its range and its split
    pub row_is : row_of x.keys t ≡ record {
      number = (node_of t lt).number;
      first = (node_of t lt).first;
      last = (node_of t lt).last;
      split = split x.keys (node_of t lt).first (node_of t lt).last;
    }
    row_is = ap (row_of x.keys) (sym (node_of t lt).parts) ∙ row_of_is x.keys ok.lawful (node_of t lt).node

    -- the row begins where the node does
    pub first_is : (row_of x.keys t).first ≡ (node_of t lt).first
    first_is = ap (λ r. r.first) row_is

    -- and ends where it does
    pub last_is : (row_of x.keys t).last ≡ (node_of t lt).last
    last_is = ap (λ r. r.last) row_is

    -- its left child is what stands over the positions to its split
    pub left_is : child_of x.keys t Left ≡ below x.keys (node_of t lt).first t
    left_is = subst (λ z. child_of x.keys z Left ≡ below x.keys (node_of t lt).first z) (node_of t lt).parts
        (child_left x.keys ok.lawful (node_of t lt).node)

    -- its right child is what stands over those behind it
    pub right_is : child_of x.keys t Right ≡ below x.keys (suc t) (node_of t lt).last
    right_is = subst (λ z. child_of x.keys z Right ≡ below x.keys (suc z) (node_of t lt).last) (node_of t lt).parts
        (child_right x.keys ok.lawful (node_of t lt).node)

    -- these positions are a range
    pub left_range : IsRange x.keys (node_of t lt).first t
    left_range = left (range_of_node x.keys ok.lawful (node_of t lt).node)
        (proper x.keys ok.lawful (node_of t lt).node) (node_of t lt).parts

    -- and so are those
    pub right_range : IsRange x.keys (suc t) (node_of t lt).last
    right_range = right (range_of_node x.keys ok.lawful (node_of t lt).node)
        (proper x.keys ok.lawful (node_of t lt).node) (node_of t lt).parts

    -- its split lies in its range
    pub low : (node_of t lt).first ≤ t
    low = omega (arith, split_low x.keys ok.lawful (node_of t lt).node, (node_of t lt).parts)

    -- before the end
    pub high : t < (node_of t lt).last
    high = omega (arith, split_high x.keys ok.lawful (node_of t lt).node, (node_of t lt).parts)

    -- and its range among the keys
    pub within : (node_of t lt).last < length x.keys
    within = node_within x.keys ok.lawful (node_of t lt).node

  -- the packet and the liveness of what has a range
  module _ (a b : ℕ) (r : IsRange x.keys a b) where
    -- a range has a position
    pub order : a ≤ b
    order = (range_laws x.keys ok.lawful r).order

    -- the row of its split has the range
    pub row_of_range : (lt : a < b) → ((row_of x.keys (split x.keys a b)).first ≡ a)
        × ((row_of x.keys (split x.keys a b)).last ≡ b)
    row_of_range lt =
        let d = row_of_is x.keys ok.lawful (range_node x.keys ok.lawful r lt).1 in
        (ap (λ z. z.first) d, ap (λ z. z.last) d)

    -- the packet has the range, and the least box round its triangles
    pub packet_of_range : IsPacketOf x.boxes x.keys a b (packet_below (frame_of x) (below x.keys a b))
    unfolding frame_of packet_below
    packet_of_range = elim (cases_eq a b) [
      | inl e ↦
          subst (λ z. IsPacketOf x.boxes x.keys a z (packet_below (frame_of x) (below x.keys a z))) e
          (rw (below_leaf x.keys ok.lawful a) (record {
            first = refl;
            last = refl;
            fit = least_of_leaf x.boxes x.keys a (omega (arith, order, (range_laws x.keys ok.lawful r).within));
          }))
      | inr ne ↦
          let lt : a < b = omega (arith, order) in
          let row = row_of_range lt in
          rw (below_inner x.keys ok.lawful a b lt) (record {
            first = row.0;
            last = row.1;
            fit = rw row.0 (rw row.1 (least_box_of-is_least x.boxes x.keys a b lt
                (omega (arith, (range_laws x.keys ok.lawful r).within))));
          })
    ]

    -- it is live where a position of the range is
    pub live_of_range : live_below (frame_of x) (below x.keys a b) ≡ live_in x.live a b
    unfolding frame_of live_below
    live_of_range = elim (cases_eq a b) [
      | inl e ↦ subst (λ z. live_below (frame_of x) (below x.keys a z) ≡ live_in x.live a z) e
          (rw (below_leaf x.keys ok.lawful a) refl)
      | inr ne ↦
          let lt : a < b = omega (arith, order) in
          let row = row_of_range lt in
          rw (below_inner x.keys ok.lawful a b lt) (rw row.0 (rw row.1 refl))
    ]
