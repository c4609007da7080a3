-- What stands above a range, and below a side of a node.
use Rattle.std.proofs.Common.{◌≡◌, ℕ, suc, ◌-◌, ◌<◌, ◌≤◌, refl, sym, ap, ◌∙◌, arith, inl, inr, subst, List, length}
use Rattle.std.specs.Prelude.{◌==◌, ◌&&◌, Some, None}
use Rattle.std.proofs.lemmas.Bool.{cases_eq, eq-eqb, ne_eqb, eqb-true, and_parts}
use Rattle.morton_key.specs.declared.keys.Key.{Key}
use Rattle.morton_key.specs.Keys.{IsLawful}
use Rattle.morton_key.proofs.Tags.{gap}
use Rattle.radix_tree.specs.Split.{split}
use Rattle.radix_tree.specs.Ranges.{IsRange, IsNode}
use Rattle.radix_tree.specs.Ranges.IsRange.{whole, left, right}
use Rattle.radix_tree.specs.Ranges.IsNode.{root, left_of, right_of}
use Rattle.radix_tree.specs.Shape.{Row, rows, shape_of}
use Rattle.radix_tree.proofs.SplitLaws.{split_laws}
use Rattle.radix_tree.proofs.RangeLaws.{range_laws}
use Rattle.radix_tree.proofs.NumberLaws.{proper, range_of_node}
use Rattle.radix_tree.proofs.NodeLaws.{node_within, split_low, split_high}
use Rattle.radix_tree.proofs.ShapeRows.{node_in_table, row_in_any_tree}
use Rattle.arrival_core.specs.declared.packets.Side.TheVariants.{Left, Right}
use Rattle.arrival_core.specs.declared.packets.Up.{Up}
use Rattle.arrival_core.specs.Settings.{row_of, side_of_row, or_else, above, child_of, below}
use Rattle.arrival_core.specs.declared.packets.Side.{Side}
use Rattle.arrival_core.specs.Frames.Below.{leaf, inner}
use Rattle.arrival_core.proofs.SplitNames.{find_the_only, find_none, named, row_by_split, row_of_is}

module _ (keys : List Key) (ok : IsLawful keys) where
  -- the row of a node with a range
  abbrev pub row : ℕ → ℕ → ℕ → Row
  row i a b = record { number = i; first = a; last = b; split = split keys a b }

  -- a range that ends at the split of a node that begins with it is its left child
  pub above_left : {i a e : ℕ} → IsNode keys i a e →
      above keys a (split keys a e) ≡ Some (record { split = split keys a e; side = Left })
  unfolding above side_of_row or_else
  above_left {i} {a} {e} d =
      let it = find_the_only (λ r. r.first == a && r.split == split keys a e) (rows 0 (shape_of keys)) (row i a e)
      (node_in_table keys ok d) (rw (eq-eqb a a refl) (eq-eqb _ _ refl))
      (λ r c h. row_by_split keys ok d r c (eqb-true _ _ (and_parts (r.first == a) (r.split == split keys a e) h).1)) in
      rw it refl

  -- no node both begins with a right child and parts where it ends
  one_side : {i p b j e : ℕ} → IsNode keys i p b → IsNode keys j (suc (split keys p b)) e →
      split keys (suc (split keys p b)) e ≡ b → ⊥
  one_side {i} {p} {b} {j} {e} d u h =
      let v = range_laws keys ok (range_of_node keys ok u) in
      let l = range_laws keys ok (range_of_node keys ok d) in
      let q = split_laws keys ok (suc (split keys p b)) e b (proper keys ok u) v.within h in
      let w = split_laws keys ok p b (split keys p b) (proper keys ok d) l.within refl in
      let z : suc (split keys p b) - 1 ≡ split keys p b = omega arith in
      let before : 0 < suc (split keys p b) →
      gap keys (suc (split keys p b)) e < gap keys (split keys p b) (suc (split keys p b)) = rw z at v.before in
      omega (arith, before (omega arith), q.middle, w.middle, l.after (omega (arith, q.high, v.within)))

  -- what stands above a right child
  pub above_right : {i p b : ℕ} → IsNode keys i p b →
      above keys (suc (split keys p b)) b ≡ Some (record { split = split keys p b; side = Right })
  unfolding above side_of_row or_else
  above_right {i} {p} {b} d =
      let s : ℕ = split keys p b in
      let none = find_none (λ r. r.first == suc (split keys p b) && r.split == b) (rows 0 (shape_of keys))
      (λ r c h.
      let parts = and_parts (r.first == suc (split keys p b)) (r.split == b) h in
      let x = row_in_any_tree keys ok r c in
      let f : r.first ≡ suc (split keys p b) = eqb-true _ _ parts.0 in
      let g : r.split ≡ b = eqb-true _ _ parts.1 in
      let node : IsNode keys r.number (suc (split keys p b)) r.last
      = subst (λ z. IsNode keys r.number z r.last) f x.node in
      one_side d node (subst (λ z. split keys z r.last ≡ b) f (sym x.split_is ∙ g))) in
      let it = find_the_only (λ r. suc r.split == suc (split keys p b) && r.last == b) (rows 0 (shape_of keys))
      (row i p b)
      (node_in_table keys ok d) (rw (eq-eqb (suc (split keys p b)) (suc (split keys p b)) refl) (eq-eqb b b refl))
      (λ r c h.
      let e = eqb-true _ _ (and_parts (suc r.split == suc (split keys p b)) (r.last == b) h).0 in
      let e2 : r.split ≡ split keys p b = omega (arith, e) in
      row_by_split keys ok d r c e2) in
      rw none (rw it refl)

  -- nothing is above the whole
  pub above_whole : (a b : ℕ) → a ≡ 0 → suc b ≡ length keys → above keys a b ≡ None
  unfolding above side_of_row or_else
  above_whole a b first last =
      let none = find_none (λ r. r.first == a && r.split == b) (rows 0 (shape_of keys))
      (λ r c h.
      let g : r.split ≡ b = eqb-true _ _ (and_parts (r.first == a) (r.split == b) h).1 in
      let x = row_in_any_tree keys ok r c in
      omega (arith, x.split_is, split_high keys ok x.node, node_within keys ok x.node, g)) in
      let never = find_none (λ r. suc r.split == a && r.last == b) (rows 0 (shape_of keys))
      (λ r c h.
      let g : suc r.split ≡ a = eqb-true _ _ (and_parts (suc r.split == a) (r.last == b) h).0 in
      omega (arith, g)) in
      rw none (rw never refl)

  -- a range of two or more positions is a node
  pub range_node : {a b : ℕ} → IsRange keys a b → a < b → (i : ℕ) × IsNode keys i a b
  range_node (whole e) lt = (0, root lt e)
  range_node (left {a = a} {b = b} {s = s} r more e) lt = (s, left_of (range_node r more).1 e lt)
  range_node (right {a = a} {b = b} {s = s} r more e) lt = (suc s, right_of (range_node r more).1 e lt)

  -- what a side of a node has below it
  pub child_left : {i a b : ℕ} → IsNode keys i a b → child_of keys (split keys a b) Left ≡ below keys a (split keys a b)
  unfolding child_of
  child_left d = rw (row_of_is keys ok d) refl

  -- the right child of a node
  pub child_right : {i a b : ℕ} → IsNode keys i a b →
      child_of keys (split keys a b) Right ≡ below keys (suc (split keys a b)) b
  unfolding child_of
  child_right d = rw (row_of_is keys ok d) refl

  -- what stands above a range
  pub record Above (a b : ℕ) : Type 0 where
    pub up : Up
    pub found : above keys a b ≡ Some up
    pub node : suc up.split < length keys
    pub child : child_of keys up.split up.side ≡ below keys a b

  -- something stands above every range but the whole
  pub above_of : {a b : ℕ} → IsRange keys a b → (a ≡ 0 → suc b ≡ length keys → ⊥) → Above a b
  above_of (whole e) nw = absurd (nw refl e)
  above_of (left {a = a} {b = b} {s = s} r lt e) nw =
      let d = (range_node r lt).1 in
      let q = split_laws keys ok a b s lt (range_laws keys ok r).within e in
      record {
        up = record { split = s; side = Left };
        found = subst (λ z. above keys a z ≡ Some (record { split = z; side = Left })) e (above_left d);
        node = omega (arith, q.high, (range_laws keys ok r).within);
        child = subst (λ z. child_of keys z Left ≡ below keys a z) e (child_left d);
      }
  above_of (right {a = a} {b = b} {s = s} r lt e) nw =
      let d = (range_node r lt).1 in
      let q = split_laws keys ok a b s lt (range_laws keys ok r).within e in
      record {
        up = record { split = s; side = Right };
        found = subst (λ z. above keys (suc z) b ≡ Some (record { split = z; side = Right })) e (above_right d);
        node = omega (arith, q.high, (range_laws keys ok r).within);
        child = subst (λ z. child_of keys z Right ≡ below keys (suc z) b) e (child_right d);
      }

  -- a range of one position is a leaf
  pub below_leaf : (p : ℕ) → below keys p p ≡ leaf p
  unfolding below
  below_leaf p = rw (eq-eqb p p refl) refl

  -- a longer one is an inner node
  pub below_inner : (a b : ℕ) → a < b → below keys a b ≡ inner (split keys a b)
  unfolding below
  below_inner a b lt = rw (ne_eqb a b (λ z. omega arith)) refl

  -- an inner child of a side, with its node and what is above it
  pub record Inner (t : ℕ) (d : Side) (i : ℕ) : Type 0 where
    pub number : ℕ
    pub first : ℕ
    pub last : ℕ
    pub node : IsNode keys number first last
    pub parts : split keys first last ≡ i
    pub found : above keys first last ≡ Some (record { split = t; side = d })
    pub shorter : last - first < (row_of keys t).last - (row_of keys t).first

  -- and only such
  inner_is : (a b i : ℕ) → below keys a b ≡ inner i → a ≤ b → (a < b) × (split keys a b ≡ i)
  unfolding below
  inner_is a b i h le = elim (cases_eq a b) [
    | inl e ↦ let no : leaf a ≡ inner i = rw (eq-eqb a b e) at h in cc
    | inr ne ↦ let it : inner (split keys a b) ≡ inner i = rw (ne_eqb a b ne) at h in
        let same : split keys a b ≡ i = cc in (omega arith, same)
  ]

  -- the node of an inner child, from that of its parent
  inner_below : (d : Side) (i : ℕ) {x a b : ℕ} → IsNode keys x a b → child_of keys (split keys a b) d ≡ inner i →
      Inner (split keys a b) d i
  inner_below Left i {x} {a} {b} n h =
      let it = inner_is a (split keys a b) i (sym (child_left n) ∙ h) (split_low keys ok n) in
      let r = row_of_is keys ok n in
      let rf : (row_of keys (split keys a b)).first ≡ a = ap (λ z. z.first) r in
      let rl : (row_of keys (split keys a b)).last ≡ b = ap (λ z. z.last) r in
      record {
        number = split keys a b;
        first = a;
        last = split keys a b;
        node = left_of n refl it.0;
        parts = it.1;
        found = above_left n;
        shorter = omega (arith, rf, rl, split_high keys ok n, it.0);
      }
  inner_below Right i {x} {a} {b} n h =
      let it = inner_is (suc (split keys a b)) b i (sym (child_right n) ∙ h) (split_high keys ok n) in
      let r = row_of_is keys ok n in
      let rf : (row_of keys (split keys a b)).first ≡ a = ap (λ z. z.first) r in
      let rl : (row_of keys (split keys a b)).last ≡ b = ap (λ z. z.last) r in
      record {
        number = suc (split keys a b);
        first = suc (split keys a b);
        last = b;
        node = right_of n refl it.0;
        parts = it.1;
        found = above_right n;
        shorter = omega (arith, rf, rl, split_low keys ok n, it.0);
      }

  -- the same, from the split of the parent
  pub inner_child : (t : ℕ) (d : Side) (i : ℕ) → suc t < length keys → child_of keys t d ≡ inner i → Inner t d i
  inner_child t d i lt h =
      let n = named keys ok t lt in
      let h2 : child_of keys (split keys n.first n.last) d ≡ inner i = subst (λ z. child_of keys z d ≡ inner i)
      (sym n.parts) h in
      subst (λ z. Inner z d i) n.parts (inner_below d i n.node h2)
