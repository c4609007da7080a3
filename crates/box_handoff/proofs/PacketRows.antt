-- The row of an inner node, by its packet.
use Rattle.std.proofs.Common.{◌≡◌, ℕ, suc, ◌<◌, inl, inr, List, sym, refl, ap, ◌∙◌, subst, arith}
use Rattle.std.proofs.lemmas.Bool.{cases_eq}
use Rattle.fixed_box.specs.declared.shapes.Box3.{Box3}
use Rattle.fixed_box.specs.Boxes.{IsLeastBox}
use Rattle.morton_key.specs.declared.keys.Key.{Key}
use Rattle.morton_key.specs.Keys.{IsLawful}
use Rattle.radix_tree.specs.Split.{split}
use Rattle.radix_tree.specs.Ranges.{IsRange, IsNode, left, right}
use Rattle.radix_tree.specs.Fit.{boxes_in}
use Rattle.radix_tree.specs.Filling.{IsFullRow}
use Rattle.radix_tree.proofs.RangeLaws.{range_laws}
use Rattle.radix_tree.proofs.NumberLaws.{proper, range_of_node}
use Rattle.radix_tree.proofs.FitLaws.{least_of_leaf}
use Rattle.radix_tree.proofs.OneTable.{least_box_of-is_least}
use Rattle.arrival_core.specs.declared.packets.Packet.{Packet}
use Rattle.arrival_core.specs.declared.packets.Side.TheVariants.{Left, Right}
use Rattle.arrival_core.specs.Settings.{row_of, below, child_of}
use Rattle.arrival_core.proofs.SplitNames.{row_of_is}
use Rattle.arrival_core.proofs.Parents.{range_node, child_left, child_right, below_leaf, below_inner}
use Rattle.box_handoff.specs.Packets.{packet_of, child_packet}
use Rattle.box_handoff.specs.Assembling.{row}

-- what the packet of a range tells
pub record Tells (keys : List Key) (boxes : List Box3) (a b : ℕ) (p : Packet) : Type 0 where
  pub first : p.first ≡ a
  pub last : p.last ≡ b
  pub fit : IsLeastBox (boxes_in boxes keys a b) p.fit
  pub part : a < b → p.split ≡ split keys a b

module _ (keys : List Key) (ok : IsLawful keys) (boxes : List Box3) where
  -- the packet of a range tells its ends, its least box and its split
  packet_tells : (a b : ℕ) → IsRange keys a b → Tells keys boxes a b (packet_of keys boxes (below keys a b))
  unfolding packet_of
  packet_tells a b r = elim (cases_eq a b) [
    | inl e ↦ subst (λ z. Tells keys boxes a z (packet_of keys boxes (below keys a z))) e
        (rw (below_leaf keys ok a) (record {
          first = refl;
          last = refl;
          fit = least_of_leaf boxes keys a (omega (arith, (range_laws keys ok r).order, (range_laws keys ok r).within));
          part = λ lt. absurd (omega arith);
        }))
    | inr ne ↦
        let lt : a < b = omega (arith, (range_laws keys ok r).order) in
        let is = row_of_is keys ok (range_node keys ok r lt).1 in
        let f : (row_of keys (split keys a b)).first ≡ a = ap (λ z. z.first) is in
        let l : (row_of keys (split keys a b)).last ≡ b = ap (λ z. z.last) is in
        rw (below_inner keys ok a b lt) (record {
          first = f;
          last = l;
          fit = rw f (rw l (least_box_of-is_least boxes keys a b lt (omega (arith, (range_laws keys ok r).within))));
          part = λ _. refl;
        })
  ]

  -- the row of an inner node by its packet
  pub tells_row : {i : ℕ} (a b : ℕ) (p : Packet) → Tells keys boxes a b p → a < b → IsNode keys i a b →
      IsFullRow keys boxes i (row p)
  tells_row {i} a b p t lt d = record {
    row = record {
      range = rw t.first (rw t.last d);
      part = rw t.first (rw t.last (t.part lt));
    };
    fit = rw t.first (rw t.last t.fit);
  }

  -- the packets of a node's children
  pub left_tells : {i a b : ℕ} (s : ℕ) (p : Packet) → IsNode keys i a b → split keys a b ≡ s →
      p ≡ child_packet keys boxes s Left →
      Tells keys boxes a s p
  left_tells {i} {a} {b} s p d e is = subst (λ x. Tells keys boxes a s x)
      (sym (is ∙ ap (packet_of keys boxes) (subst (λ z. child_of keys z Left ≡ below keys a z) e
      (child_left keys ok d))))
      (packet_tells a s (left (range_of_node keys ok d) (proper keys ok d) e))

  -- and that of its right child
  pub right_tells : {i a b : ℕ} (s : ℕ) (p : Packet) → IsNode keys i a b → split keys a b ≡ s →
      p ≡ child_packet keys boxes s Right →
      Tells keys boxes (suc s) b p
  right_tells {i} {a} {b} s p d e is = subst (λ x. Tells keys boxes (suc s) b x)
      (sym (is ∙ ap (packet_of keys boxes) (subst (λ z. child_of keys z Right ≡ below keys (suc z) b) e
      (child_right keys ok d))))
      (packet_tells (suc s) b (right (range_of_node keys ok d) (proper keys ok d) e))
